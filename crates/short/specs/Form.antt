-- The short form: what crate form says of any form is said of it.
use Rattle.short_rule.specs.Edition.{editions}
use Rattle.form.specs.Form.{Form}
use Rattle.short_layout.specs.Fields.{record_word}
use Rattle.short_record.specs.Split.{record_at}
use Rattle.short_record.specs.declared.kinds.Record.{Record}
use Rattle.short_rule.specs.Has.{has}
use Rattle.short.specs.Tests.{read_tests, write_tests}

abbrev pub short_form : Form Record
short_form = record { editions = editions; word = record_word; at = record_at; has = has; reading = read_tests; writing = write_tests }
