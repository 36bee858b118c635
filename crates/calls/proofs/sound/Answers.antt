-- `calls::sound` meets its contract, by what was read. Assumes nothing.
use Rattle.answers.specs.Laws.{run_known, run_bad}
use Rattle.calls.specs.Calls.{sound_answer}
use Rattle.calls.proofs.sound.Goals as goal

pub returns-in_default : goal.returns-in_default
unfolding sound_answer
returns-in_default c = search run_bad

pub returns : goal.returns
unfolding sound_answer
returns c =
    run_known c.word.ensures _ c.read_run.ensures c.in-Some.is (rw (c.from.ensures, c.is_sound.ensures) at c.write_number.ensures)
