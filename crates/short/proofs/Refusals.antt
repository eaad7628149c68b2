-- Each refusal exactly. A number comes exactly when its test is the first that fails, 0 exactly when none fails, and 6 names exactly the
-- editions that have the word or record, and their number.
-- Assumes nothing.
use mathlib.Core.Path.{◌≡◌, refl}
use mathlib.Core.Bool.{Bool, false}
use mathlib.Core.Logic.{◌↔◌, ◌⊎◌, inl, inr}
use Prim.Native.Nat.{ℕ, ◌≤◌, ◌<◌}
use Rattle.std.specs.Prelude.{Err}
use Rattle.bits.specs.Field.{bit_of}
use Rattle.bits.specs.Decide.{FirstFails, FailsWith}
use Rattle.edition.specs.Mask.{count_below}
use Rattle.short_rule.specs.Edition.{editions, mask_of}
use Rattle.edition.specs.declared.Refusal.TheVariants.{OtherEditions}
use Rattle.edition.proofs.Masks.{mask_bit, mask_bit_above}
use Rattle.form.proofs.Calls.{OthersHave}
use Rattle.promise.proofs.Promises.{first_exactly, fails_exactly, number_is}
use Rattle.form.proofs.Promises as Forms
use Rattle.form.proofs.Shows.{own_shows}
use Rattle.registers.specs.declared.Hsr.{Hsr}
use Rattle.short_record.specs.declared.kinds.Record.{Record}
use Rattle.short_rule.specs.Has.{has, editions_of}
use Rattle.short.specs.Form.{short_form}
use Rattle.short.specs.Answer.{read_said, written_said}
use Rattle.short.specs.Reading.{has_word, read_of, read_list}
use Rattle.short.specs.Writing.{write_of, write_list}
use Rattle.short.proofs.Instance.{sound, written_shows}
use Rattle.short.proofs.Promises.{reads, writes}

-- a number of reading: 0, 1, 3, 4, 5 or 6
abbrev pub OneOfReading : ℕ → Type 0
OneOfReading k = (k ≡ 0) ⊎ ((k ≡ 1) ⊎ ((k ≡ 3) ⊎ ((k ≡ 4) ⊎ ((k ≡ 5) ⊎ (k ≡ 6)))))

module _ (e : ℕ) (hsr : Hsr) where
  -- READING, 0, 1 and 3 to 6, each exactly: at a number the type on the right is the row of tests up to that number's
  pub read_refused_exactly : (k : ℕ) → (read_said.number (read_of e hsr) ≡ k) ↔ FirstFails k (read_list e hsr)
  read_refused_exactly = first_exactly (read_list e hsr) tt (reads e hsr refl)

  -- reading's numbers are 0, 1, 3, 4, 5 and 6
  pub read_numbers_lem : OneOfReading (read_said.number (read_of e hsr))
  read_numbers_lem =
      number_is OneOfReading (read_list e hsr) (reads e hsr refl) (
        inr (inl refl),
        (
          inr (inr (inl refl)),
          (
            inr (inr (inr (inl refl))),
            (inr (inr (inr (inr (inl refl)))), (inr (inr (inr (inr (inr refl)))), tt)),
          ),
        ),
      )
      (inl refl)

  pub read_six_exactly : (mask count : ℕ)
      → (read_of e hsr ≡ Err (OtherEditions mask count))
      ↔ (OthersHave editions (λ x. has_word x hsr.0) e × (mask ≡ mask_of (λ x. has_word x hsr.0))
      × (count ≡ count_below editions (λ x. has_word x hsr.0)))
  unfolding read_of mask_of
  read_six_exactly = Forms.read_six_exactly short_form sound own_shows e hsr.0

-- a number of writing: 0, 1, 4, 5 or 6
abbrev pub OneOfWriting : ℕ → Type 0
OneOfWriting k = (k ≡ 0) ⊎ ((k ≡ 1) ⊎ ((k ≡ 4) ⊎ ((k ≡ 5) ⊎ (k ≡ 6))))

module _ (e : ℕ) (r : Record) where
  -- WRITING, each number exactly: a class that the kind lacks and a record that no edition has are both 5
  pub write_refused_exactly : (k : ℕ) → (written_said.number (write_of e r) ≡ k) ↔ FailsWith k (write_list e r)
  write_refused_exactly = fails_exactly (write_list e r) (writes e r refl)

  -- writing's numbers are 0, 1, 4, 5 and 6
  pub write_numbers_lem : OneOfWriting (written_said.number (write_of e r))
  write_numbers_lem =
      number_is OneOfWriting (write_list e r) (writes e r refl)
      (inr (inl refl), (inr (inr (inr (inl refl))), (inr (inr (inl refl)), (inr (inr (inr (inl refl))), (inr (inr (inr (inr refl))), tt)))))
      (inl refl)

  pub write_six_exactly : (mask count : ℕ)
      → (write_of e r ≡ Err (OtherEditions mask count))
      ↔ (OthersHave editions (λ x. has x r) e × (mask ≡ editions_of r) × (count ≡ count_below editions (λ x. has x r)))
  unfolding write_of mask_of
  write_six_exactly = Forms.write_six_exactly short_form sound written_shows e r

-- the mask has bit x exactly when edition x has the word, or the record, and no bit above
module _ (test : ℕ → Bool) (x : ℕ) where
  pub mask_names : x < editions → bit_of (mask_of test) x ≡ test x
  unfolding mask_of
  mask_names = mask_bit editions test x

  pub mask_names_no_other : editions ≤ x → bit_of (mask_of test) x ≡ false
  unfolding mask_of
  mask_names_no_other = mask_bit_above editions test x
