use Rattle.std.proofs.Common.{◌≡◌, ℕ, ◌+◌, ◌-◌, ◌++◌, List, string_bytes, decimal, codes, ap, ◌∙◌, rules, arith}
use Rattle.sets.specs.Sets.{has, size}
use Rattle.texts.specs.Texts.{headline, atom_lines}
use Rattle.texts.specs.Buffered.{sign}
use Rattle.texts.proofs.Reporting.{lines_more}
use Rattle.texts.proofs.reports.report_plan.Goals as goal
use Rattle.texts.proofs.reports.report_plan.Goals.{else-loop-atom-test, then-loop-atom-test+in_ok-write+else-atom-counter-atom-end}

pub loop-atom-preserved : goal.loop-atom-preserved
loop-atom-preserved c =
    let plan = has c.args.plan.now in
    let front : List ℕ = headline (size c.args.plan.now) c.args.atoms in
    let a = c.loop-atom.atom-counter in
    let line : string_bytes c.write.new.self ≡ string_bytes c.loop-atom.text ++ (decimal a ++ (codes " " ++ (sign (plan a) ++ codes "\n"))) = search rules in
    let same : a ≡ a + 1 - 1 = omega arith in
    (omega arith, lines_more plan front (string_bytes c.loop-atom.text) (string_bytes c.write.new.self) a (omega arith) c.loop-atom.invariant.1 line ∙ ap (λ n. front ++ atom_lines plan n) same)

pub returns : goal.returns
returns c =
    let plan = has c.args.plan.now in
    let front : List ℕ = headline (size c.args.plan.now) c.args.atoms in
    let a = c.loop-atom.atom-counter in
    elim c.loop-atom-test.branch [
      | else-loop-atom-test w ↦
          let all : a - 1 ≡ c.args.atoms = omega arith in
          ap string_bytes w.text-is ∙ c.loop-atom.invariant.1 ∙ ap (λ n. front ++ atom_lines plan n) all
      | then-loop-atom-test+in_ok-write+else-atom-counter-atom-end w ↦
          let line : string_bytes c.loop-atom-test.text ≡ string_bytes c.loop-atom.text ++ (decimal a ++ (codes " " ++ (sign (plan a) ++ codes "\n"))) = search rules in
          let last : a ≡ c.args.atoms = omega arith in
          lines_more plan front (string_bytes c.loop-atom.text) (string_bytes c.loop-atom-test.text) a (omega arith) c.loop-atom.invariant.1 line ∙ ap (λ n. front ++ atom_lines plan n) last
    ]
