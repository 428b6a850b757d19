-- What a call has that none of its tests refuses.
-- Assumes nothing.
use Prim.Native.Nat.{ℕ, suc, ◌≤◌}
use mathlib.Core.Path.{◌≡◌, sym, ◌∙◌}
use mathlib.Core.Bool.{not}
use mathlib.Core.List.{List, ◌∷◌, map, ◌++◌}
use native.Mathlib.Omega.{arith}
use lib.Dec.{T, leb, leb→le}
use lib.ListN.{take}
use Rattle.chain.specs.Job.{Job, Valid, processors, held, enough, Partition}
use Rattle.chain.specs.Refusal.{Test, method_test, row_test, length_test, holds_test, enough_test, free_test, bound_test, partition_test, plan_length_test, joined_test, true_test, job_tests, Inputs, call_tests, refusal}
use Rattle.chain.specs.Halving.{Halvable}
use Rattle.chain.specs.Ranges.{Lendable}
use Rattle.chain.proofs.Ranges.{lendable_test}
use Rattle.chain.proofs.Refusals.{Numbered, numbered_cons, numbered_append, numbered_map, job_numbered, pass_head, pass_skip, append_accepted, Each, map_accepted, job_accepted, partition_test_lem}
use Rattle.chain.proofs.Halving.{row_test_lem}
use Rattle.chain.proofs.Tests.{and_left, and_right}

-- Its method is one of the four, its job valid, its row one that can be halved, its lists long enough, its holds enough or none, its bound within the limits, its
-- list a division: of each kind, what the call takes. (What a plan file has: `plan_accepted` of `chain`.)
pub record Accepted (job : Job) (inputs : Inputs) : Type 0 where
  pub methods : Each (λ m. (1 ≤ m) × (m ≤ 4)) inputs.methods
  pub valid : Valid job
  pub rows : Each Halvable inputs.rows
  pub lists : Each (λ l. l.needed ≤ l.given) inputs.lists
  pub keeping : Each (λ j. T (enough j)) inputs.keeping
  pub free : Each (λ j. T (not (held j))) inputs.free
  pub bounds : Each Lendable inputs.bounds
  pub divisions : Each (λ s. Partition job (take (suc (processors job)) s)) inputs.divisions

pub accepted : {job : Job} {inputs : Inputs} → refusal job inputs ≡ 0 → Accepted job inputs
unfolding refusal call_tests method_test length_test holds_test enough_test free_test bound_test plan_length_test partition_test joined_test row_test
accepted {job} {inputs} e =
    let t = append_accepted ((((((((((ms ++ job_tests job) ++ rs) ++ (holds_test job ∷ ls)) ++ ks) ++ fs) ++ bs) ++ ns) ++ ds) ++ js)) (map (true_test job) inputs.plans) (numbered_append (numbered_append (numbered_append bs_before ns_numbered) ds_numbered) js_numbered) e in
    let j = append_accepted (((((((((ms ++ job_tests job) ++ rs) ++ (holds_test job ∷ ls)) ++ ks) ++ fs) ++ bs) ++ ns) ++ ds)) js (numbered_append (numbered_append bs_before ns_numbered) ds_numbered) t.0 in
    let d = append_accepted (((((((ms ++ job_tests job) ++ rs) ++ (holds_test job ∷ ls)) ++ ks) ++ fs) ++ bs) ++ ns) ds (numbered_append bs_before ns_numbered) j.0 in
    let n = append_accepted ((((((ms ++ job_tests job) ++ rs) ++ (holds_test job ∷ ls)) ++ ks) ++ fs) ++ bs) ns bs_before d.0 in
    let b = append_accepted (((((ms ++ job_tests job) ++ rs) ++ (holds_test job ∷ ls)) ++ ks) ++ fs) bs (numbered_append (numbered_append ls_before ks_numbered) fs_numbered) n.0 in
    let f = append_accepted ((((ms ++ job_tests job) ++ rs) ++ (holds_test job ∷ ls)) ++ ks) fs (numbered_append ls_before ks_numbered) b.0 in
    let k = append_accepted (((ms ++ job_tests job) ++ rs) ++ (holds_test job ∷ ls)) ks ls_before f.0 in
    let l = append_accepted ((ms ++ job_tests job) ++ rs) (holds_test job ∷ ls) (numbered_append (numbered_append ms_numbered (job_numbered job)) rs_numbered) k.0 in
    let r = append_accepted (ms ++ job_tests job) rs (numbered_append ms_numbered (job_numbered job)) l.0 in
    let m = append_accepted ms (job_tests job) ms_numbered r.0 in
    let h : T (holds_test job).passes = pass_head (holds_test job) ls (omega arith) l.1 in
    record {
      methods = map_accepted (λ m. (1 ≤ m) × (m ≤ 4)) method_test (λ m. omega arith) (λ m t. (leb→le 1 m (and_left (leb 1 m) (leb m 4) t), leb→le m 4 (and_right (leb 1 m) (leb m 4) t))) inputs.methods m.0;
      valid = job_accepted.0 m.1 h;
      rows = map_accepted Halvable row_test (λ es. omega arith) (λ es t. (row_test_lem es).0 t) inputs.rows r.1;
      lists = map_accepted (λ l. l.needed ≤ l.given) (λ l. length_test l.needed l.given) (λ l. omega arith) (λ l t. leb→le l.needed l.given t) inputs.lists (sym (pass_skip (holds_test job) ls h) ∙ l.1);
      keeping = map_accepted (λ j. T (enough j)) enough_test (λ j. omega arith) (λ j t. t) inputs.keeping k.1;
      free = map_accepted (λ j. T (not (held j))) free_test (λ j. omega arith) (λ j t. t) inputs.free f.1;
      bounds = map_accepted Lendable bound_test (λ B. omega arith) (λ B t. (lendable_test B).0 t) inputs.bounds b.1;
      divisions = map_accepted (λ s. Partition job (take (suc (processors job)) s)) (partition_test job) (λ s. omega arith) (λ s t. (partition_test_lem job (take (suc (processors job)) s)).0 t) inputs.divisions d.1;
    }
  where
    ms : List Test
    ms = map method_test inputs.methods

    ms_numbered : Numbered ms
    ms_numbered = numbered_map method_test (λ m. omega arith) inputs.methods

    rs : List Test
    rs = map row_test inputs.rows

    rs_numbered : Numbered rs
    rs_numbered = numbered_map row_test (λ es. omega arith) inputs.rows

    ls : List Test
    ls = map (λ l. length_test l.needed l.given) inputs.lists

    ls_before : Numbered (((ms ++ job_tests job) ++ rs) ++ (holds_test job ∷ ls))
    ls_before =
        numbered_append (numbered_append (numbered_append ms_numbered (job_numbered job)) rs_numbered)
        (numbered_cons (omega arith) (numbered_map (λ l. length_test l.needed l.given) (λ l. omega arith) inputs.lists))

    ks : List Test
    ks = map enough_test inputs.keeping

    ks_numbered : Numbered ks
    ks_numbered = numbered_map enough_test (λ j. omega arith) inputs.keeping

    fs : List Test
    fs = map free_test inputs.free

    fs_numbered : Numbered fs
    fs_numbered = numbered_map free_test (λ j. omega arith) inputs.free

    bs : List Test
    bs = map bound_test inputs.bounds

    bs_numbered : Numbered bs
    bs_numbered = numbered_map bound_test (λ B. omega arith) inputs.bounds

    bs_before : Numbered ((((((ms ++ job_tests job) ++ rs) ++ (holds_test job ∷ ls)) ++ ks) ++ fs) ++ bs)
    bs_before = numbered_append (numbered_append (numbered_append ls_before ks_numbered) fs_numbered) bs_numbered

    ns : List Test
    ns = map plan_length_test inputs.plans

    ns_numbered : Numbered ns
    ns_numbered = numbered_map plan_length_test (λ s. omega arith) inputs.plans

    ds : List Test
    ds = map (partition_test job) inputs.divisions

    ds_numbered : Numbered ds
    ds_numbered = numbered_map (partition_test job) (λ s. omega arith) inputs.divisions

    js : List Test
    js = map (joined_test job) inputs.plans

    js_numbered : Numbered js
    js_numbered = numbered_map (joined_test job) (λ s. omega arith) inputs.plans

-- From a number that a call's tests gave, and that is 0.
pub passed : {job : Job} {inputs : Inputs} {n : ℕ} → n ≡ refusal job inputs → n ≡ 0 → Accepted job inputs
passed e z = accepted (sym e ∙ z)
