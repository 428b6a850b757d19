-- Records of a job file, in the order in which they are written.
-- Assumes nothing.
use Prim.Native.Nat.{ℕ, suc, ◌+◌, ◌*◌, ◌≤◌, ◌<◌}
use mathlib.Core.Path.{◌≡◌, refl, sym, ap, ap₂, ◌∙◌}
use mathlib.Core.List.{List, [], ◌∷◌, ◌++◌, append_assoc, append-nil}
use native.Mathlib.Omega.{arith}
use native.Mathlib.Numerals.{add-one}
use lib.ListN.{length, get_or, take, drop, set, length-set, length-append, length-drop, take-append-drop}
use lib.Seq.{take-suc, take-length, length-take-le, drop-drop, sets-eq}
use Rattle.fields.specs.Field.{field_size, field_bytes, half_size, half_bytes}
use Rattle.fields.proofs.Stores.{put_length, put_between, put_next}
use Rattle.fields.proofs.Laws.{length-half}
use Rattle.jobs.specs.JobFile.{record_bytes, records_bytes}

-- The first two stores and half a field leave the length.
pub half_room : (l : List ℕ) (a kind hold : ℕ) {l' : List ℕ} → a + 8 ≤ length l
    → (let one : List ℕ = set (set l a kind) (a + 1) 0 in l' ≡ take (a + 2) one ++ half_bytes hold ++ drop (a + 2 + half_size) one) → length l' ≡ length l
half_room l a kind hold h e =
    ap length e
    ∙ put_length (set (set l a kind) (a + 1) 0) (half_bytes hold) (a + 2) half_size (length-half hold) (omega (arith, long))
    ∙ long
  where
    long : length (set (set l a kind) (a + 1) 0) ≡ length l
    long = length-set (set l a kind) (a + 1) 0 ∙ length-set l a kind

-- Two stores, half a field and a field make a record.
pub record_stores : (l : List ℕ) (a kind hold v : ℕ) {l' l'' : List ℕ} → a + 8 ≤ length l
    → (let one : List ℕ = set (set l a kind) (a + 1) 0 in l' ≡ take (a + 2) one ++ half_bytes hold ++ drop (a + 2 + half_size) one)
    → l'' ≡ take (a + 4) l' ++ field_bytes v ++ drop (a + 4 + field_size) l' → l'' ≡ take a l ++ record_bytes kind hold v ++ drop (a + 8) l
unfolding record_bytes
record_stores l a kind hold v {l'} {l''} h e f =
    f ∙ ap (λ (x : List ℕ). take (a + 4) x ++ field_bytes v ++ drop (a + 4 + field_size) x) half
    ∙ put_next l (take a l ++ front ++ half_bytes hold) (field_bytes v) (a + 4) field_size
    (length-append (take a l ++ front) (half_bytes hold) ∙ omega (arith, long, length-half hold))
    ∙ ap (λ (n : ℕ). take a l ++ front ++ half_bytes hold ++ field_bytes v ++ drop n l) (let x : a + 4 + field_size ≡ a + 8 = omega arith in x)
    ∙ (simp append_assoc)
  where
    front : List ℕ
    front = kind ∷ 0 ∷ []

    long : length (take a l ++ front) ≡ a + 2
    long = length-append (take a l) front ∙ omega (arith, length-take-le a l (omega arith))

    stores : set (set l a kind) (a + 1) 0 ≡ take a l ++ front ++ drop (a + 2) l
    stores = let e1 : a + 1 ≡ suc a = omega arith in rw (e1) (sets-eq front l a (omega arith))

    half : l' ≡ take a l ++ front ++ half_bytes hold ++ drop (a + 4) l
    half =
        e ∙ ap (λ (x : List ℕ). take (a + 2) x ++ half_bytes hold ++ drop (a + 2 + half_size) x) stores
        ∙ put_next l (take a l ++ front) (half_bytes hold) (a + 2) half_size long
        ∙ ap (λ (n : ℕ). take a l ++ front ++ half_bytes hold ++ drop n l) (let x : a + 2 + half_size ≡ a + 4 = omega arith in x)

module _ (kind : ℕ) where
  pub length_record : (hold v : ℕ) → length (record_bytes kind hold v) ≡ 8
  unfolding record_bytes half_bytes field_bytes
  length_record hold v = refl

  pub length_records : (hold : ℕ → ℕ) (vs : List ℕ) → length (records_bytes kind hold vs) ≡ 8 * length vs
  unfolding records_bytes
  length_records hold [] = refl
  length_records hold (v ∷ vs) =
      length-append (record_bytes kind (hold 0) v) (records_bytes kind (λ i. hold (suc i)) vs)
      ∙ omega (arith, length_record (hold 0) v, length_records (λ i. hold (suc i)) vs)

  -- One value more is one record more.
  pub records_snoc : (hold : ℕ → ℕ) (vs : List ℕ) (v : ℕ)
      → records_bytes kind hold (vs ++ v ∷ []) ≡ records_bytes kind hold vs ++ record_bytes kind (hold (length vs)) v
  unfolding records_bytes
  records_snoc hold [] v = append-nil (record_bytes kind (hold 0) v)
  records_snoc hold (w ∷ vs) v =
      ap (λ (l : List ℕ). record_bytes kind (hold 0) w ++ l) (records_snoc (λ i. hold (suc i)) vs v)
      ∙ sym (append_assoc (record_bytes kind (hold 0) w) (records_bytes kind (λ i. hold (suc i)) vs) (record_bytes kind (hold (suc (length vs))) v))

  -- Only the holds of the values count.
  pub records_same : (f g : ℕ → ℕ) (vs : List ℕ) → ((i : ℕ) → i < length vs → f i ≡ g i) → records_bytes kind f vs ≡ records_bytes kind g vs
  unfolding records_bytes
  records_same f g [] e = refl
  records_same f g (v ∷ vs) e =
      ap₂ (λ (h : ℕ) (l : List ℕ). record_bytes kind h v ++ l) (e 0 (omega arith))
      (records_same (λ i. f (suc i)) (λ i. g (suc i)) vs (λ i h. e (suc i) (omega arith)))

-- Records from number `from` on: what the file holds after the first j.
module _ (kind : ℕ) (hold : ℕ → ℕ) (vs : List ℕ) (from : ℕ) (file : List ℕ) where
  unfoldable pub holding : ℕ → List ℕ
  holding j = take (8 * from) file ++ records_bytes kind hold (take j vs) ++ drop (8 * (from + j)) file

module _ (kind : ℕ) (hold : ℕ → ℕ) (vs : List ℕ) (from : ℕ) (file : List ℕ) (fits : 8 * (from + length vs) ≤ length file) where
  front_length : (j : ℕ) → j ≤ length vs → length (take (8 * from) file ++ records_bytes kind hold (take j vs)) ≡ 8 * (from + j)
  front_length j h =
      length-append (take (8 * from) file) (records_bytes kind hold (take j vs))
      ∙ omega (arith, length-take-le (8 * from) file (omega arith), length_records kind hold (take j vs), length-take-le j vs h)

  pub holding-length : (j : ℕ) → j ≤ length vs → length (holding kind hold vs from file j) ≡ length file
  unfolding holding
  holding-length j h =
      length-append (take (8 * from) file ++ records_bytes kind hold (take j vs)) (drop (8 * (from + j)) file)
      ∙ omega (arith, front_length j h, length-drop (8 * (from + j)) file)

  pub holding_none : file ≡ holding kind hold vs from file 0
  unfolding holding records_bytes
  holding_none =
      sym (ap (λ (l : List ℕ). l ++ drop (8 * (from + 0)) file) (append-nil (take (8 * from) file))
      ∙ ap (λ (n : ℕ). take (8 * from) file ++ drop n file) (let e : 8 * (from + 0) ≡ 8 * from = omega arith in e)
      ∙ take-append-drop (8 * from) file)

  pub holding_next : (j : ℕ) → j < length vs
      → take (8 * (from + j)) (holding kind hold vs from file j) ++ record_bytes kind (hold j) (get_or vs j 0) ++ drop (8 * (from + j) + 8) (holding kind hold vs from file j)
      ≡ holding kind hold vs from file (suc j)
  unfolding holding
  holding_next j h =
      put_between (front ++ records_bytes kind hold (take j vs)) (drop (8 * (from + j)) file) (record_bytes kind (hold j) (get_or vs j 0)) (8 * (from + j)) 8
      (front_length j (omega arith))
      ∙ ap (λ (l : List ℕ). l ++ drop 8 (drop (8 * (from + j)) file))
      (append_assoc front (records_bytes kind hold (take j vs)) (record_bytes kind (hold j) (get_or vs j 0)) ∙ ap (λ (l : List ℕ). front ++ l) more)
      ∙ ap (λ (l : List ℕ). front ++ records_bytes kind hold (take (suc j) vs) ++ l)
      (drop-drop 8 (8 * (from + j)) file ∙ ap (λ (n : ℕ). drop n file) (let e : 8 * (from + j) + 8 ≡ 8 * (from + suc j) = omega arith in e))
    where
      front : List ℕ
      front = take (8 * from) file

      more : records_bytes kind hold (take j vs) ++ record_bytes kind (hold j) (get_or vs j 0) ≡ records_bytes kind hold (take (suc j) vs)
      more =
          sym (ap (records_bytes kind hold) (take-suc vs j 0 h) ∙ records_snoc kind hold (take j vs) (get_or vs j 0)
          ∙ ap (λ (i : ℕ). records_bytes kind hold (take j vs) ++ record_bytes kind (hold i) (get_or vs j 0)) (length-take-le j vs (omega arith)))

  pub holding-all : holding kind hold vs from file (length vs) ≡ take (8 * from) file ++ records_bytes kind hold vs ++ drop (8 * (from + length vs)) file
  unfolding holding
  holding-all = ap (λ (l : List ℕ). take (8 * from) file ++ records_bytes kind hold l ++ drop (8 * (from + length vs)) file) (take-length vs)

-- The loop that puts them: j are put.
pub record Putting (kind : ℕ) (hold : ℕ → ℕ) (vs : List ℕ) (from : ℕ) (file now : List ℕ) (j : ℕ) : Type 0 where
  pub done : j ≤ length vs
  pub room : length now ≡ length file
  pub held : now ≡ holding kind hold vs from file j

module _ (kind : ℕ) (hold : ℕ → ℕ) (vs : List ℕ) (from : ℕ) (file : List ℕ) (fits : 8 * (from + length vs) ≤ length file) where
  pub putting_none : Putting kind hold vs from file file 0
  putting_none = record { done = omega arith; room = refl; held = holding_none kind hold vs from file fits }

  pub putting_next : {now next : List ℕ} {j : ℕ} → Putting kind hold vs from file now j → j < length vs
      → next ≡ take (8 * (from + j)) now ++ record_bytes kind (hold j) (get_or vs j 0) ++ drop (8 * (from + j) + 8) now
      → Putting kind hold vs from file next (j + 1)
  putting_next {now} {next} {j} p h e =
      record { done = omega arith; room = ap length held ∙ holding-length kind hold vs from file fits (j + 1) (omega arith); held = held }
    where
      held : next ≡ holding kind hold vs from file (j + 1)
      held =
          e
          ∙ ap (λ (l : List ℕ). take (8 * (from + j)) l ++ record_bytes kind (hold j) (get_or vs j 0) ++ drop (8 * (from + j) + 8) l) p.held
          ∙ holding_next kind hold vs from file fits j h ∙ ap (holding kind hold vs from file) (sym (add-one j))

  pub putting_all : {now : List ℕ} {j : ℕ} → Putting kind hold vs from file now j → length vs ≤ j
      → now ≡ take (8 * from) file ++ records_bytes kind hold vs ++ drop (8 * (from + length vs)) file
  putting_all {now} {j} p h =
      p.held ∙ ap (holding kind hold vs from file) (let e : j ≡ length vs = omega (arith, p.done) in e)
      ∙ holding-all kind hold vs from file fits
