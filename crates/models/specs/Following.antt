-- How a derivation follows its atoms one by one. Assumes nothing.
use Rattle.std.specs.Prelude.{◌≡◌, ℕ, ◌+◌, ◌≤◌, true, ◌⊎◌, List, length}
use Rattle.sets.specs.Sets.{has, size, In}
use Rattle.base.specs.Stacks.{items}
use Rattle.rules.specs.Program.{◌∈◌, Rule, Program}
use Rattle.rules.specs.Asked.{rule_at}
use Rattle.models.specs.Firing.{none_of, firing}
use Rattle.models.specs.declared.derivation.Derivation.{Derivation}

module _ {S : Type 0} {g : _} where
  -- an atom that is found and not waiting has been followed
  abbrev pub Followed : Derivation S g → ℕ → Type 0
  Followed d b = In (has d.found) b × (¬ (b ∈ items d.waiting))

  -- if the negative atoms of a rule are not blocked and its positive ones have been followed, its head is found
  abbrev pub Done : Derivation S g → Rule → Type 0
  Done d r = none_of (has d.blocked.now) r.neg ≡ true → ((b : ℕ) → b ∈ r.pos → Followed d b) → In (has d.found) r.head

  -- every rule is done, or among the ones that are still to be considered
  abbrev pub DoneBut : (S → Program) → Derivation S g → List ℕ → Type 0
  DoneBut meaning d rest = (j : ℕ) → 1 ≤ j → j ≤ length (meaning d.source.now).rules → Done d (rule_at (meaning d.source.now) j) ⊎ (j ∈ rest)

  abbrev pub AllDone : (S → Program) → Derivation S g → Type 0
  AllDone meaning d = (j : ℕ) → 1 ≤ j → j ≤ length (meaning d.source.now).rules → Done d (rule_at (meaning d.source.now) j)

  -- a derivation goes on: from the same rules, what was found stays and what is new waits, and what has been followed now had been before
  pub record Onward (old new : Derivation S g) : Type 0 where
    pub source : new.source.now ≡ old.source.now
    pub blocked : new.blocked.now ≡ old.blocked.now
    pub kept : (b : ℕ) → In (has old.found) b → In (has new.found) b
    pub before : (b : ℕ) → Followed new b → Followed old b
    pub same : length (items new.waiting) + size old.found ≡ length (items old.waiting) + size new.found

  -- the head of rule j is found if it fires
  abbrev pub Considered : (S → Program) → Derivation S g → Derivation S g → ℕ → Type 0
  Considered meaning old new j =
      1 ≤ j → j ≤ length (meaning old.source.now).rules → firing (has old.blocked.now) (has old.found) (rule_at (meaning old.source.now) j) ≡ true → In (has new.found) (rule_at (meaning old.source.now) j).head
