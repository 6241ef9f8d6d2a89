-- What an iterator over a rule's body has yet to give. Assumes nothing.
use Rattle.std.specs.Prelude.{ℕ, zero, suc, ◌-◌, List, [], ◌∷◌}
use Rattle.rules.specs.Program.{Program}
use Rattle.rules.specs.Asked.{literal_at}
use Rattle.rules.specs.declared.literal.Literal.{Literal}
use Rattle.rules.specs.declared.body.Body.{Body}

-- the literals of a rule at the places behind a place, so many of them
abbrev pub literals_behind : Program → ℕ → ℕ → ℕ → List Literal
literals_behind P rule place zero = []
literals_behind P rule place (suc n) = literal_at P rule (suc place) ∷ literals_behind P rule (suc place) n

-- those that an iterator has yet to give, by what the source means
abbrev pub left_of : {S : Type 0} → (S → Program) → Body S → List Literal
left_of meaning b = literals_behind (meaning b.source.now) b.rule b.given (b.size - b.given)
