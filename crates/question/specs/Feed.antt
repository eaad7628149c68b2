-- What a line of at most 52 bytes asks that came byte by byte.
use Rattle.std.specs.Prelude.{cond, leb, take, Option, None}
use Rattle.line.specs.declared.State.{State}
use Rattle.question.specs.Question.{question_of}
use Rattle.question.specs.declared.Question.{Question}

abbrev pub ended : State 52 → Option Question
ended s = cond (leb s.count 52) (question_of (take s.count s.bytes)) None
