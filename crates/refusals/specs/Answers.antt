-- What an answer says, what a call that writes a file answers, and what any call leaves in a lent list, by the number that it is
-- refused with. Scope, section 8.
use Rattle.std.specs.Prelude.{ℕ, cond, List, [], ◌∷◌, ◌++◌, length, drop, eqb, Result, Ok, Err}
use Rattle.bound.specs.declared.Bound.{Bound}
use Rattle.chain.specs.declared.Refusal.{Refusal}
use Rattle.chain.specs.Numbers.{code_of}

-- What an answer says: the scope's number, 0 where the call is accepted, and the values.
pub record Said : Type 0 where
  pub number : ℕ
  pub values : List ℕ

-- An accepted call says these values.
abbrev pub accepting : List ℕ → Said
accepting values = record { number = 0; values = values }

-- A number alone. Scope 8.1: "A refusal gives a number and nothing else"
abbrev pub alone : ℕ → Said
alone number = record { number = number; values = [] }

-- The same by the number of the refusal: these values, or that number.
unfoldable pub said_by : ℕ → List ℕ → Said
said_by number values = cond (eqb number 0) (accepting values) (alone number)

-- A bound says its load and its speed. Scope 2.1: "A bound is a pair: a load over a speed."
abbrev pub bound_values : Bound → List ℕ
bound_values B = B.load ∷ B.speed ∷ []

-- An answer says what its value does, or the number of the refusal.
abbrev pub answer_said : {A : Type 0} → (A → List ℕ) → Result A Refusal → Said
answer_said values (Ok x) = accepting (values x)
answer_said values (Err refusal) = alone (code_of refusal)

-- Writing a file says the count of its bytes.
abbrev pub written_said : Result ℕ Refusal → Said
written_said = answer_said (λ count. count ∷ [])

-- What a lent list holds after a call that puts these entries in front. On a refusal, Scope 8.1: "every list or buffer that was lent
-- stays as it was"; otherwise, Scope 8.5: "Entries behind those that a call needs stay."
unfoldable pub lent_after : ℕ → List ℕ → List ℕ → List ℕ
lent_after number new old = cond (eqb number 0) (new ++ drop (length new) old) old
