-- The refusals of a request, as the code takes them. Assumes nothing.
use Rattle.std.specs.Prelude.{ℕ}
use Rattle.run.specs.declared.Run.{Run}
use Rattle.paging.specs.Sets.{◌<?◌, unless◌give◌else◌}
use Rattle.counts.specs.Counts.{most_served}
use Rattle.run.specs.Sound.{sound}

-- 1, 8, 9, or 0.
unfoldable pub request_refusal : Run → ℕ → ℕ
request_refusal r p =
    unless sound r give 1 else
    unless p <? r.pages give 8 else
    unless r.counts.served <? most_served give 9 else
    0
