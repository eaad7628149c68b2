-- How long a line of a log can be.
-- Assumes nothing.
use mathlib.Core.Path.{◌≡◌, refl}
use mathlib.Core.Bool.{Bool, true, false, cond}
use mathlib.Core.List.{◌++◌}
use Prim.Native.Nat.{ℕ, ◌≤◌}
use native.Mathlib.Omega.{arith}
use lib.ListN.{length, length-append}
use Rattle.registers.specs.declared.Far.{Far}
use Rattle.registers.specs.declared.Hpfar.{Hpfar}
use Rattle.edition.specs.Feature.{is_edition}
use Rattle.trap_log.specs.Answer.{number_of, section_in}
use Rattle.std.specs.Prelude.{Result, Ok, Err}
use Rattle.trap_log.specs.declared.answer.LogRefusal.{LogRefusal}
use Rattle.names.specs.Name.{meaning_of}
use Rattle.names.specs.Table.{sources, values_at}
use Rattle.names.specs.Value.{injections}
use Rattle.names.proofs.Room.{meaning_length}
use Rattle.registers.specs.declared.Esr.{Esr}
use Rattle.text.specs.Ascii.{ascii}
use Rattle.text.proofs.Numerals.{decimal_length, hex_length}
use Rattle.log_text.specs.Lines.{decimal_field, hex_field, edition_field, refused_text, read_text, edition_text, injection_text, words_text}

-- the injections' list is where code has it
pub injections_at : values_at 32 ≡ injections
unfolding values_at sources
injections_at = refl

pub decimal_field_length : (n : ℕ) → length (decimal_field n) ≤ 21
decimal_field_length n = omega (arith, decimal_length n)

pub hex_field_length : (n : ℕ) → length (hex_field n) ≤ 17
hex_field_length n = omega (arith, hex_length n)

pub edition_field_length : (n : ℕ) → length (edition_field n) ≤ 29
edition_field_length n = go (is_edition n)
  where
    go : (t : Bool) → length (cond t (hex_field n) (decimal_field n ++ ascii " unknown")) ≤ 29
    go true = omega (arith, hex_field_length n)
    go false = let d = decimal_field_length n in rw (length-append (decimal_field n) (ascii " unknown")) (omega arith)

refused_length : (refusal : LogRefusal) → length (refused_text refusal) ≤ 128
refused_length refusal =
    let n = decimal_length (number_of (Err refusal)) in
    let s = decimal_length (section_in (Err refusal)) in
    simp length-append (omega arith)

pub read_length : (a : Result ℕ LogRefusal) → length (read_text a) ≤ 128
read_length (Ok gone) = let n = decimal_length gone in simp length-append (omega arith)
read_length (Err refusal) = refused_length refusal

pub edition_length : (edition : ℕ) → length (edition_text edition) ≤ 128
edition_length edition = let n = edition_field_length edition in simp length-append (omega arith)

pub injection_length : (injection domain : ℕ) → length (injection_text injection domain) ≤ 256
injection_length injection domain =
    let n = decimal_length injection in
    let d = decimal_length domain in
    let m : length (meaning_of injections injection) ≤ 128 = rw injections_at at (meaning_length 32 injection) in
    simp length-append (omega arith)

pub words_length : (esr : Esr) (far : Far) (hpfar : Hpfar) → length (words_text esr far hpfar) ≤ 128
words_length esr far hpfar =
    let e = hex_length esr.0 in
    let f = hex_length far.0 in
    let h = hex_length hpfar.0 in
    simp length-append (omega arith)
