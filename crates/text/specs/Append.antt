-- Bytes appended to a text that is the first bytes of a buffer.
use Rattle.std.specs.Prelude.{ℕ, ◌+◌, ◌-◌, min, ◌≡◌, List, length}
use Rattle.std.proofs.lemmas.List.Edits.{sets}
use Rattle.text.specs.declared.Text.{Text}

-- the end of a text after n more bytes in a buffer of `room` bytes
abbrev pub end_of : ℕ → ℕ → ℕ → ℕ
end_of room at n = at + min n (room - at)

-- the bytes stand one by one from `at` on, those past the buffer's end nowhere, and the end is counted on
pub record Appends (bytes before : List ℕ) (at : ℕ) (after : List ℕ) (end : ℕ) : Type 0 where
  pub stored : after ≡ sets before at bytes
  pub ended : end ≡ end_of (length before) at (length bytes)

-- the bytes are appended to the text in its buffer, which stays the same
pub record Extends (bytes : List ℕ) (old new : Text) : Type 0 where
  pub appended : Appends bytes old.bytes.now old.end new.bytes.now new.end
  pub same_buffer : new.bytes.ghost_name ≡ old.bytes.ghost_name
