-- Request C-21, "An older log": the form of a log before C-21, when an injection was one byte.
use Rattle.std.specs.Prelude.{ℕ, List, ◌++◌}
use Rattle.log_section.specs.Log.{Entries, byte, word, pair, section_bytes}

unfoldable pub older_log : Entries → List ℕ
older_log e =
    section_bytes byte e.editions ++ (section_bytes word e.syndromes
    ++ (section_bytes pair e.addresses ++ section_bytes byte e.injections))
