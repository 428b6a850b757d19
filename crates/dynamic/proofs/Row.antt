-- A row that is being filled: what a store changes and what it leaves.
-- Assumes nothing.
use Prim.Native.Nat.{ℕ, suc, ◌+◌, ◌*◌, ◌≤◌, ◌<◌}
use mathlib.Core.Path.{◌≡◌, sym, ap₂, subst, ◌∙◌}
use mathlib.Core.List.{List}
use native.Mathlib.Omega.{arith}
use native.Mathlib.Decide.{dec_le}
use lib.ListN.{length, set, length-set}
use lib.Seq.{get_or-set_same, get_or-set_other}
use Rattle.bound.specs.declared.Bound.{Bound}
use Rattle.bound.specs.Order.{over}
use Rattle.chain.specs.Job.{Job, tasks}
use Rattle.chain.specs.Dynamic.{table_value}
use Rattle.dynamic.specs.Rows.{entry_at, stored, RowAt}

stored-length : (xs : List ℕ) (i : ℕ) (B : Bound) → length (stored xs i B) ≡ length xs
unfolding stored
stored-length xs i B = simp length-set

-- The stored entry is read back,
stored_here : (xs : List ℕ) (i : ℕ) (B : Bound) → 2 * i + 1 < length xs → entry_at (stored xs i B) i ≡ B
unfolding stored entry_at
stored_here xs i B h =
    ap₂ over
    (get_or-set_other (set xs (2 * i) B.load) (2 * i + 1) (2 * i) B.speed 0 (λ x. omega arith)
    ∙ get_or-set_same xs (2 * i) B.load 0 (omega arith))
    (get_or-set_same (set xs (2 * i) B.load) (2 * i + 1) B.speed 0 (omega (arith, length-set xs (2 * i) B.load)))

-- and every other entry is as it was.
stored_other : (xs : List ℕ) (i : ℕ) (B : Bound) (k : ℕ) → k < i → entry_at (stored xs i B) k ≡ entry_at xs k
unfolding stored entry_at
stored_other xs i B k h =
    ap₂ over
    (get_or-set_other (set xs (2 * i) B.load) (2 * i + 1) (2 * k) B.speed 0 (λ x. omega arith)
    ∙ get_or-set_other xs (2 * i) (2 * k) B.load 0 (λ x. omega arith))
    (get_or-set_other (set xs (2 * i) B.load) (2 * i + 1) (2 * k + 1) B.speed 0 (λ x. omega arith)
    ∙ get_or-set_other xs (2 * i) (2 * k + 1) B.load 0 (λ x. omega arith))

-- So a row grows by the entry that is stored.
pub row_none : {job : Job} {xs : List ℕ} (p : ℕ) → 2 * suc (tasks job) ≤ length xs → RowAt job xs p 0
row_none p h = record { room = h; entries = λ i l. absurd (let z : ⊥ = omega arith in z) }

pub row_stored : {job : Job} {xs ys : List ℕ} {p i : ℕ} {B : Bound} → RowAt job xs p i → i ≤ tasks job → ys ≡ stored xs i B → B ≡ table_value job p i
    → RowAt job ys p (i + 1)
row_stored {job} {xs} {ys} {p} {i} {B} r h f e =
    subst (λ (zs : List ℕ). RowAt job zs p (i + 1)) (sym f)
    (record {
      room = omega (arith, stored-length xs i B, r.room);
      entries = λ k l. elim (dec_le (suc k) i) [ yes m ↦ stored_other xs i B k m ∙ r.entries k m | no m ↦ new k (omega arith) ];
    })
  where
    new : (k : ℕ) → i ≡ k → entry_at (stored xs i B) k ≡ table_value job p k
    new k x = subst (λ (n : ℕ). entry_at (stored xs i B) n ≡ table_value job p n) x (stored_here xs i B (omega (arith, r.room)) ∙ e)
