-- The walk over the pairs gives those that stand in the body of the rule.
use Rattle.std.proofs.Common.{◌≡◌, ◌∙◌, ap}
use Rattle.std.specs.List.{slice_get}
use Rattle.std.specs.Option.{option_map}
use Rattle.sets.specs.Sets.{rising}
use Rattle.rules.specs.Program.{Rule}
use Rattle.rules.specs.Asked.{body, minus}
use Rattle.sharing.specs.Sheets.{sheet_of, pair_count}
use Rattle.sharing.specs.Asked.{blocks}
use Rattle.sharing.specs.declared.sheet.SharingSheet.{SharingSheet}
use Rattle.sharing.proofs.RuleOf.{literal_of}
use Rattle.sharing.proofs.sheet.SharingSheet.blocker.Goals as goal

pub returns : goal.returns
returns c =
    let S = sheet_of c.args.self.now in
    let s = c.body_of.result.subject in
    let found : c.nth_passing.result ≡ slice_get (rising (blocks S s) (pair_count S)) c.args.place =
    c.nth_passing.ensures
    ∙ ap (λ (x : SharingSheet). slice_get (rising (blocks (sheet_of x) s) c.pair_count.result) c.args.place) c.body_of.ensures.sheet
    ∙ ap (λ n. slice_get (rising (blocks S s) n) c.args.place) c.pair_count.ensures.value in
    ap (option_map minus) found ∙ literal_of S s c.args.place ∙ ap (λ (r : Rule). slice_get (body r) c.args.place) c.body_of.ensures.subject
