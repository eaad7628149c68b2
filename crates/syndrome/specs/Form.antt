-- The long form, from each origin: what crate form says of any form is said of it.
use Rattle.edition.specs.Feature.{editions}
use Rattle.form.specs.Form.{Form}
use Rattle.layout.specs.Fields.{record_word}
use Rattle.record.specs.Split.{record_at}
use Rattle.record.specs.declared.origin.Origin.{Origin}
use Rattle.record.specs.declared.kinds.Record.{Record}
use Rattle.rule.specs.Has.{has}
use Rattle.syndrome.specs.Tests.{read_tests, write_tests}

abbrev pub long_form : Origin → Form Record
long_form o = record { editions = editions; word = record_word; at = record_at; has = has o; reading = read_tests o; writing = write_tests o }
