-- What stays true of a derivation that goes on. Assumes nothing.
use Rattle.std.proofs.Common.{◌≡◌, ℕ, ◌+◌, ◌<◌, ◌≤◌, true, ◌⊎◌, List, [], ◌∷◌, ◌++◌, length, sym, ◌∙◌, subst, inl, inr, ⊎_elim, arith}
use Rattle.std.proofs.lemmas.Bool.{and_from, cases_eq}
use Rattle.sets.specs.Sets.{Atoms, In, has}
use Rattle.rules.specs.Program.{◌∈◌, Rule, Program}
use Rattle.rules.specs.Asked.{no_rule, rule_at}
use Rattle.rules.proofs.Copied.{at_place}
use Rattle.models.specs.Derives.{Derives}
use Rattle.models.specs.Firing.{all_of, none_of}
use Rattle.models.specs.Following.{Done, DoneBut, Onward, Considered}
use Rattle.models.specs.declared.derivation.Derivation.{Derivation}
use Rattle.models.proofs.Finding.{in?}
use Rattle.models.proofs.Lists.{place_of, in_parts}
use Rattle.models.proofs.Bodies.{all_of_from, none_of_from}
use Rattle.models.proofs.Least.{within_closed}

module _ {S : Type 0} {g : _} where
  pub further : (d e f : Derivation S g) → Onward d e → Onward e f → Onward d f
  further d e f o p =
      record {
        source = p.source ∙ o.source;
        blocked = p.blocked ∙ o.blocked;
        kept = λ b t. p.kept b (o.kept b t);
        before = λ b t. o.before b (p.before b t);
        same = omega (arith, o.same, p.same);
      }

  module _ (meaning : S → Program) (old new : Derivation S g) (o : Onward old new) where
    free : (r : Rule) → none_of (has new.blocked.now) r.neg ≡ true → none_of (has old.blocked.now) r.neg ≡ true
    free r = subst (λ b. none_of (has b) r.neg ≡ true) o.blocked

    pub inside : (j : ℕ) → j ≤ length (meaning new.source.now).rules → j ≤ length (meaning old.source.now).rules
    inside j = subst (λ s. j ≤ length (meaning s).rules) o.source

    -- a rule stays done
    pub stays_done : (j : ℕ) → Done old (rule_at (meaning old.source.now) j) → Done new (rule_at (meaning new.source.now) j)
    stays_done j done =
        let r = rule_at (meaning old.source.now) j in
        subst (λ s. Done new (rule_at (meaning s) j)) (sym o.source) (λ out ins. o.kept r.head (done (free r out) (λ b m. o.before b (ins b m))))

    -- and the rule that was considered is done
    pub now_done : (j : ℕ) → Considered meaning old new j → 1 ≤ j → j ≤ length (meaning old.source.now).rules → Done new (rule_at (meaning new.source.now) j)
    now_done j considered low high =
        let r = rule_at (meaning old.source.now) j in
        subst (λ s. Done new (rule_at (meaning s) j)) (sym o.source)
        (λ out ins. considered low high (and_from (all_of (has old.found) r.pos) (none_of (has old.blocked.now) r.neg) (all_of_from (has old.found) r.pos (λ b m. (o.before b (ins b m)).0)) (free r out)))

    -- so there is one rule less to be considered
    pub one_less : (rule : ℕ) (rest rest' : List ℕ) → rest ≡ rule ∷ rest' → Considered meaning old new rule → DoneBut meaning old rest → DoneBut meaning new rest'
    one_less rule rest rest' step considered ahead j low high =
        ⊎_elim
        (λ done. inl (stays_done j done))
        (λ m. ⊎_elim
        (λ e. inl (now_done j (subst (Considered meaning old new) (sym e) considered) low (inside j high)))
        inr
        (subst (λ rules. j ∈ rules) step m))
        (ahead j low (inside j high))

    -- and the rules up to it are done
    pub one_more : (rule : ℕ) → Considered meaning old new rule → ((j : ℕ) → 1 ≤ j → j < rule → Done old (rule_at (meaning old.source.now) j)) → rule ≤ length (meaning old.source.now).rules
        → (j : ℕ) → 1 ≤ j → j < rule + 1 → Done new (rule_at (meaning new.source.now) j)
    one_more rule considered before high j low h =
        ⊎_elim
        (λ (e : j ≡ rule). now_done j (subst (Considered meaning old new) (sym e) considered) low (omega (arith, e, high)))
        (λ n. stays_done j (before j low (omega arith)))
        (cases_eq j rule)

-- an atom is taken off what waits: a rule is done still, unless it is listed for the atom
pub taken_off : (X Y : Atoms) (s s' : List ℕ) (atom j : ℕ) (r : Rule) (rules : List ℕ) → s ≡ s' ++ atom ∷ [] → (atom ∈ r.pos → j ∈ rules)
    → (none_of X r.neg ≡ true → ((b : ℕ) → b ∈ r.pos → In Y b × (¬ (b ∈ s))) → In Y r.head)
    → (none_of X r.neg ≡ true → ((b : ℕ) → b ∈ r.pos → In Y b × (¬ (b ∈ s'))) → In Y r.head) ⊎ (j ∈ rules)
taken_off X Y s s' atom j r rules row listed done = go (in? atom r.pos)
  where
    go : Dec (atom ∈ r.pos) → (none_of X r.neg ≡ true → ((b : ℕ) → b ∈ r.pos → In Y b × (¬ (b ∈ s'))) → In Y r.head) ⊎ (j ∈ rules)
    go (yes m) = inr (listed m)
    go (no n) =
        inl (λ out ins. done out (λ b m. (
          (ins b m).0,
          λ w. ⊎_elim (ins b m).1
              (⊎_elim (λ (same : b ≡ atom). n (subst (λ c. c ∈ r.pos) same m)) (λ none. none))
              (in_parts b s' (atom ∷ []) (subst (λ xs. b ∈ xs) row w)),
        )))

-- where every rule is done and nothing waits, all that is derived is found
pub all_found : (P : Program) (X Y : Atoms) (s : List ℕ) → s ≡ []
    → ((j : ℕ) → 1 ≤ j → j ≤ length P.rules → none_of X (rule_at P j).neg ≡ true → ((b : ℕ) → b ∈ (rule_at P j).pos → In Y b × (¬ (b ∈ s))) → In Y (rule_at P j).head)
    → (a : ℕ) → Derives P (In X) a → In Y a
all_found P X Y s none done a d =
    within_closed P (In X) (In Y)
    (λ r m out ins.
    let o = place_of r P.rules no_rule m in
    let is : rule_at P (o.0 + 1) ≡ r = at_place P o.0 ∙ o.2 in
    let here : none_of X r.neg ≡ true → ((b : ℕ) → b ∈ r.pos → In Y b × (¬ (b ∈ s))) → In Y r.head =
    subst (λ (q : Rule). none_of X q.neg ≡ true → ((b : ℕ) → b ∈ q.pos → In Y b × (¬ (b ∈ s))) → In Y q.head) is (done (o.0 + 1) (omega arith) (omega (arith, o.1))) in
    here (none_of_from X r.neg out) (λ b h. (ins b h, λ w. subst (λ xs. b ∈ xs) none w)))
    d
