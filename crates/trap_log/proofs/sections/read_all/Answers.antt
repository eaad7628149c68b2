-- `trap_log::sections::read_all` meets its contract: the tests that led to each answer are those of the definition, in its order.
-- Assumes nothing.
use Rattle.std.proofs.Common.{rules, arith, sym, ◌∙◌}
use Rattle.trap_log.proofs.InTurn.{first_cut, second_cut, third_cut, fourth_cut, left_over, unequal, wide, accepted}
use Rattle.trap_log.proofs.sections.read_all.Goals as goal

pub returns-in_err-editions : goal.returns-in_err-editions
returns-in_err-editions c =
    let e = first_cut c.args.log.now c.requires (sym c.front.ensures ∙ c.in_err-editions.ensures.ok_part) in
    search rules

pub returns-in_err-syndromes : goal.returns-in_err-syndromes
returns-in_err-syndromes c =
    let one = sym c.front.ensures ∙ c.in_ok-editions.ensures.ok_part in
    let e = second_cut c.args.log.now c.requires one (sym c.front-2.ensures ∙ c.in_err-syndromes.ensures.ok_part) in
    search rules

pub returns-in_err-addresses : goal.returns-in_err-addresses
returns-in_err-addresses c =
    let one = sym c.front.ensures ∙ c.in_ok-editions.ensures.ok_part in
    let two = sym c.front-2.ensures ∙ c.in_ok-syndromes.ensures.ok_part in
    let e = third_cut c.args.log.now c.requires one two (sym c.front-3.ensures ∙ c.in_err-addresses.ensures.ok_part) in
    search rules

pub returns-in_err-injections : goal.returns-in_err-injections
returns-in_err-injections c =
    let one = sym c.front.ensures ∙ c.in_ok-editions.ensures.ok_part in
    let two = sym c.front-2.ensures ∙ c.in_ok-syndromes.ensures.ok_part in
    let three = sym c.front-3.ensures ∙ c.in_ok-addresses.ensures.ok_part in
    let e = fourth_cut c.args.log.now c.requires one two three (sym c.front-4.ensures ∙ c.in_err-injections.ensures.ok_part) in
    search rules

pub returns-then-injections-fourth : goal.returns-then-injections-fourth
returns-then-injections-fourth c =
    let one = sym c.front.ensures ∙ c.in_ok-editions.ensures.ok_part in
    let two = sym c.front-2.ensures ∙ c.in_ok-syndromes.ensures.ok_part in
    let three = sym c.front-3.ensures ∙ c.in_ok-addresses.ensures.ok_part in
    let four = sym c.front-4.ensures ∙ c.in_ok-injections.ensures.ok_part in
    left_over c.args.log.now c.requires one two three four c.if-injections-fourth.true

pub returns-then-syndromes-addresses : goal.returns-then-syndromes-addresses
returns-then-syndromes-addresses c =
    let one = sym c.front.ensures ∙ c.in_ok-editions.ensures.ok_part in
    let two = sym c.front-2.ensures ∙ c.in_ok-syndromes.ensures.ok_part in
    let three = sym c.front-3.ensures ∙ c.in_ok-addresses.ensures.ok_part in
    let four = sym c.front-4.ensures ∙ c.in_ok-injections.ensures.ok_part in
    unequal c.args.log.now c.requires one two three four (omega arith) c.if-syndromes-addresses.true

pub returns-then-not-domains_fit : goal.returns-then-not-domains_fit
returns-then-not-domains_fit c =
    let one = sym c.front.ensures ∙ c.in_ok-editions.ensures.ok_part in
    let two = sym c.front-2.ensures ∙ c.in_ok-syndromes.ensures.ok_part in
    let three = sym c.front-3.ensures ∙ c.in_ok-addresses.ensures.ok_part in
    let four = sym c.front-4.ensures ∙ c.in_ok-injections.ensures.ok_part in
    wide c.args.log.now c.requires one two three four (omega arith) (omega arith)
    (sym c.domains_fit.ensures ∙ c.if-not-domains_fit.true)

pub returns : goal.returns
returns c =
    let one = sym c.front.ensures ∙ c.in_ok-editions.ensures.ok_part in
    let two = sym c.front-2.ensures ∙ c.in_ok-syndromes.ensures.ok_part in
    let three = sym c.front-3.ensures ∙ c.in_ok-addresses.ensures.ok_part in
    let four = sym c.front-4.ensures ∙ c.in_ok-injections.ensures.ok_part in
    accepted c.args.log.now c.requires one two three four (omega arith) (omega arith)
    (sym c.domains_fit.ensures ∙ c.if-not-domains_fit.false)
