use Rattle.std.proofs.Common.{◌∙◌, get_or, set, ap, arith}
use Rattle.models.specs.Chains.{chain}
use Rattle.models.specs.declared.occurrences.Position.{Position}
use Rattle.models.proofs.Chained.{added}
use Rattle.models.proofs.occurrences.Occurrences.add.Goals as goal

pub returns-clause-listed : goal.returns-clause-listed
returns-clause-listed c a =
    let o = c.args.self.now in
    let p : Position = record { rule = c.args.rule; next = get_or o.first c.args.atom 0 } in
    let at = get_or (set o.first c.args.atom c.len.result) a 0 in
    ap (λ ps. chain ps at at) c.push.ensures.items
    ∙ added o.positions.items o.falls p (o.starts c.args.atom) o.first o.starts c.args.atom (omega arith) c.len.result a (omega (arith, c.len.ensures.value, c.push.ensures.len))
