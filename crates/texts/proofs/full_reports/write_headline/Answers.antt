use Rattle.std.proofs.Common.{◌++◌, codes, decimal, ap}
use Rattle.texts.proofs.Placed.{wrote_as, wrote_then}
use Rattle.texts.proofs.full_reports.write_headline.Goals as goal

pub returns : goal.returns
returns c =
    wrote_then (wrote_as (ap (λ n. codes "plan " ++ decimal n) c.from.ensures) c.labelled.ensures)
    (wrote_then (wrote_as (ap (λ n. codes " of " ++ decimal n) c.from-2.ensures) c.labelled-2.ensures)
    (wrote_then (wrote_as (ap (λ n. codes " " ++ decimal n) c.percent.ensures) c.labelled-3.ensures) c.text.ensures))
