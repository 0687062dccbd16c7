-- `explainrun::go_on` meets its promise.
use Rattle.whole.specs.Text.{bytes}
use Rattle.linerun.specs.Laws.{goes}
use Rattle.linerun.specs.Promise.{Answers}
use Rattle.explainrun.specs.Promise.{unread, unwritten}
use Rattle.explainrun.proofs.go_on.Goals as goal

pub returns-in-Line : goal.returns-in-Line
returns-in-Line c = goes c.next.ensures c.in-Line.is c.answer.ensures

pub returns-in-Nothing : goal.returns-in-Nothing
returns-in-Nothing c = goes c.next.ensures c.in-Nothing.is Answers.no_answer

pub returns-in-Unread : goal.returns-in-Unread
unfolding unread bytes
returns-in-Unread c = goes c.next.ensures c.in-Unread.is (Answers.cannot_read c.say.ensures)

pub returns-in-Unwritten : goal.returns-in-Unwritten
unfolding unwritten bytes
returns-in-Unwritten c = goes c.next.ensures c.in-Unwritten.is (Answers.cannot_write c.say-in-Unwritten.ensures)
