-- What the rules settle is found out once.
use Rattle.case.proofs.case.Case.new.Goals as goal

pub invariant_of-result : goal.invariant_of-result
invariant_of-result g c = record {
  known = ∣ record {
    trues = c.settle-settled.ensures.trues;
    falses = c.settle-settled.ensures.falses;
    unsettled = c.settle-settled.ensures.unsettled;
    assumed = λ a. (
      (λ t. let o = (c.assumable-assumable.ensures.answer a).0 t in record { negative = o.0; unsettled = (c.settle-settled.ensures.unsettled a).0 o.1 }),
      λ s. (c.assumable-assumable.ensures.answer a).1 (s.negative, (c.settle-settled.ensures.unsettled a).1 s.unsettled),
    );
  } ∣₁;
  upheld = ∣ tt ∣₁;
}
