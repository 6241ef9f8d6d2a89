-- The least member from `next` on comes first, and without one nothing is left.
use Rattle.std.proofs.Common.{length, ap, arith, rules}
use Rattle.sets.specs.Sets.{has}
use Rattle.sets.proofs.Iterating.{left_none, left_least}
use Rattle.sets.proofs.Sets.{has_high}
use Rattle.sets.proofs.members.MembersIterator.next.Goals as goal
use Rattle.std.proofs.iter.Next.{firm}

pub returns-in_err-atom : goal.returns-in_err-atom
returns-in_err-atom c =
    let none = left_none (has c.args.self.now.set.now) c.args.self.now.next c.in_err-atom.ensures in
    rw c.from_residual.ensures (record { steps = (none, none); goes = firm (tt) (λ h. search rules) })

pub overflow_add-self : goal.overflow_add-self
overflow_add-self c = omega (arith, has_high c.args.self.now.set.now c.in_ok-atom.atom c.in_ok-atom.ensures.0.1)

pub returns : goal.returns
returns c =
    let first = left_least c.args.self.now.set.now c.args.self.now.next c.in_ok-atom.atom c.in_ok-atom.ensures in
    let longer = ap length first in
    record { steps = first; goes = firm ((tt, tt, omega arith)) (λ h. search rules) }
