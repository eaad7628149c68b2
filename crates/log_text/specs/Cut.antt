-- The lines that only a log has which is cut short.
use Rattle.std.specs.Prelude.{ℕ, List, ◌++◌}
use Rattle.log_text.specs.Lines.{decimal_field, hex_field}
use Rattle.registers.specs.declared.Esr.{Esr}
use Rattle.text.specs.Ascii.{ascii}
use Rattle.log_cut.specs.declared.Cut.{Cut}

-- a syndrome whose address doesn't precede the cut
abbrev pub syndrome_text : Esr → List ℕ
syndrome_text esr = ascii "syndrome" ++ hex_field esr.0 ++ ascii "\n"

-- how much of a section precedes the cut
abbrev pub before_text : Cut → List ℕ
before_text (Cut.Count bytes) = decimal_field bytes ++ ascii " of 4 bytes of its count"
before_text (Cut.Entries whole count bytes) =
    decimal_field whole ++ ascii " of" ++ decimal_field count ++ ascii " entries in" ++ decimal_field bytes ++ ascii " bytes"

abbrev pub cut_text : ℕ → Cut → List ℕ
cut_text section c = ascii "cut in section" ++ decimal_field section ++ ascii ":" ++ before_text c ++ ascii "\n"
