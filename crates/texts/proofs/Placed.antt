-- Bytes written into a buffer, one after another and from its start. Assumes nothing.
use Rattle.std.proofs.Common.{◌≡◌, ℕ, ◌+◌, ◌<◌, ◌≤◌, cond, List, [], ◌++◌, length, take, drop, Ok, Err, sym, refl, ap, ◌∙◌, subst, arith}
use Rattle.std.proofs.lemmas.List.{append-nil, append_assoc, length-append, take-append-drop, drop-drop}
use Rattle.std.proofs.lemmas.Bool.{le-leb, lt-leb}
use Rattle.base.specs.Buffers.{written_over, WroteInRoom}
use Rattle.base.specs.declared.refusal.Refusal.TheVariants.{BufferTooShort}
use Rattle.texts.specs.Writing.{Wrote}
use Rattle.texts.specs.declared.writing.Writer.{Writer}

-- two buffers that agree from a place on agree from a later one on
agree_beyond : (xs ys : List ℕ) (at more next : ℕ) → next ≡ at + more → drop at xs ≡ drop at ys → drop next xs ≡ drop next ys
agree_beyond xs ys at more next e same =
    ap (λ k. drop k xs) e ∙ sym (drop-drop more at xs) ∙ ap (drop more) same ∙ drop-drop more at ys ∙ ap (λ k. drop k ys) (sym e)

pub wrote_nothing : (w : Writer) → Wrote w [] w
wrote_nothing w = record { same = refl; long = refl; until = omega arith; front = sym (append-nil (take w.at w.out.now)); behind = refl }

pub wrote_as : {old new : Writer} {bytes same : List ℕ} → bytes ≡ same → Wrote old bytes new → Wrote old same new
wrote_as {old} {new} {bytes} {same} e = subst (λ xs. Wrote old xs new) e

pub wrote_then : {old mid new : Writer} {first second : List ℕ} → Wrote old first mid → Wrote mid second new → Wrote old (first ++ second) new
wrote_then {old} {mid} {new} {first} {second} p q =
    record {
      same = q.same ∙ p.same;
      long = q.long ∙ p.long;
      until = omega (arith, p.until, q.until, length-append first second);
      front = q.front ∙ ap (λ xs. xs ++ second) p.front ∙ append_assoc (take old.at old.out.now) first second;
      behind = q.behind ∙ agree_beyond mid.out.now old.out.now mid.at (length second) new.at q.until p.behind;
    }

-- a call that needs room wrote its bytes from the start on
pub wrote_in_room : {needed next : ℕ} {old new bytes : List ℕ} {fresh last : Writer} → needed ≤ length old → length bytes ≤ needed →
    fresh.at ≡ 0 → fresh.out.now ≡ old → Wrote fresh bytes last → next ≡ last.at → new ≡ last.out.now → WroteInRoom needed bytes old (Ok next) new
wrote_in_room {needed} {next} {old} {new} {bytes} {fresh} {last} room enough start out w ends ended =
    let until : last.at ≡ length bytes = omega (arith, w.until) in
    let whole : last.out.now ≡ written_over bytes old =
    sym (take-append-drop last.at last.out.now)
    ∙ ap (λ xs. xs ++ drop last.at last.out.now) (w.front ∙ ap (λ k. take k fresh.out.now ++ bytes) start)
    ∙ ap (λ xs. bytes ++ xs) (w.behind ∙ ap (λ k. drop k fresh.out.now) until ∙ ap (drop (length bytes)) out) in
    let test = le-leb needed (length old) room in
    record {
      answer = ap Ok (ends ∙ until) ∙ sym (ap (λ b. cond b (Ok (length bytes)) (Err (BufferTooShort needed))) test);
      wrote = ended ∙ whole ∙ sym (ap (λ b. cond b (written_over bytes old) old) test);
      enough = enough;
    }

-- or it had none, and wrote nothing
pub wrote_in_no_room : {needed : ℕ} {old bytes : List ℕ} → length old < needed → length bytes ≤ needed → WroteInRoom needed bytes old (Err (BufferTooShort needed)) old
wrote_in_no_room {needed} {old} {bytes} less enough =
    let test = lt-leb needed (length old) less in
    record {
      answer = sym (ap (λ b. cond b (Ok (length bytes)) (Err (BufferTooShort needed))) test);
      wrote = sym (ap (λ b. cond b (written_over bytes old) old) test);
      enough = enough;
    }
