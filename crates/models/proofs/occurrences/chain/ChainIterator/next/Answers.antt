use Rattle.std.proofs.Common.{◌≡◌, suc, ◌∷◌, ◌∙◌, length, get_or, ap, rules, arith}
use Rattle.std.proofs.iter.Next.{firm}
use Rattle.models.specs.Chains.{no_position, chain}
use Rattle.models.proofs.Chained.{enough}
use Rattle.models.proofs.occurrences.chain.ChainIterator.next.Goals as goal

pub returns : goal.returns
returns c =
    let s = c.args.self.now in
    let ps = s.positions.now in
    let k = c.in_ok-rule.field-0 in
    let known = c.in_ok-rule.ensures in
    let at : s.at ≡ suc k = omega (arith, known.0, known.1) in
    let next = (get_or ps k no_position).next in
    let first =
    ap (λ m. chain ps m m) at
    ∙ ap (λ rules. (get_or ps k no_position).rule ∷ rules) (enough ps s.falls k next next (s.falls k (omega (arith, s.within))) (omega arith) (omega (arith, s.within, s.falls k (omega (arith, s.within))))) in
    let longer = ap length first in
    record { steps = first; goes = firm ((tt, tt, omega arith)) (λ h. search rules) }
