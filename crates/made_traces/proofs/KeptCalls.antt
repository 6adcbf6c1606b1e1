-- Calls that keep the rules of a trace, with plain and short texts; and what lists, callers and phases of them are as data.
use Rattle.std.proofs.Common.{◌≡◌, ℕ, zero, suc, ◌+◌, ◌*◌, ◌≤◌, ◌&&◌, Bool, true, List, [], ◌∷◌, ◌++◌, map, length, refl, arith, leb-true, nat_le}
use Rattle.std.specs.Prelude.{⊤}
use Rattle.std.specs.List.{flat_map, list_all, range_with_len}
use Rattle.std.proofs.lemmas.Bool.{and_parts, and_from}
use Rattle.serde_json.specs.Data.{Data, depth, items_depth}
use Rattle.serde_json.specs.View.{items_of}
use Rattle.trace_make.specs.Calls.{list}
use Rattle.trace_make.specs.Made.{phase}
use Rattle.made_traces.proofs.CallRules.{AreCalls, is_call}
use Rattle.made_traces.proofs.PhaseRules.{calls_in}
use Rattle.made_traces.proofs.PlainData.{is_plain, items_plain, weight, items_weight}

pub record IsKept (d : Data) : Type 0 where
  pub call : is_call d ≡ true
  pub plain : is_plain d ≡ true
  pub light : weight d ≤ 20000
  pub flat : depth d ≤ 2

abbrev pub AreKept : List Data → Type 0
AreKept [] = ⊤
AreKept (d ∷ ds) = IsKept d × AreKept ds

-- the same as a test
abbrev pub is_kept : Data → Bool
is_kept d = is_call d && (is_plain d && (nat_le (weight d) 20000 && nat_le (depth d) 2))

kept_by_test : (d : Data) → is_kept d ≡ true → IsKept d
kept_by_test d h =
    let p = and_parts _ _ h in
    let q = and_parts _ _ p.1 in
    let r = and_parts _ _ q.1 in
    record { call = p.0; plain = q.0; light = leb-true _ _ r.0; flat = leb-true _ _ r.1 }

pub are_kept_by_test : (ds : List Data) → list_all is_kept ds ≡ true → AreKept ds
are_kept_by_test [] h = tt
are_kept_by_test (d ∷ ds) h = let p = and_parts _ _ h in (kept_by_test d p.0, are_kept_by_test ds p.1)

pub are_kept-append : (xs ys : List Data) → AreKept xs → AreKept ys → AreKept (xs ++ ys)
are_kept-append [] ys h k = k
are_kept-append (x ∷ xs) ys h k = (h.0, are_kept-append xs ys h.1 k)

pub are_kept-flat_map : (f : ℕ → List Data) (a n : ℕ) → ((i : ℕ) → AreKept (f i)) → AreKept (flat_map f (range_with_len a n))
are_kept-flat_map f a zero each = tt
are_kept-flat_map f a (suc n) each = are_kept-append (f a) (flat_map f (range_with_len (a + 1) n)) (each a) (are_kept-flat_map f (a + 1) n each)

-- ---- a list of calls

pub are_calls : (ds : List Data) → AreKept ds → AreCalls ds
are_calls [] h = tt
are_calls (d ∷ ds) h = (h.0.call, are_calls ds h.1)

calls-plain : (ds : List Data) → AreKept ds → items_plain (items_of ds) ≡ true
calls-plain [] h = refl
calls-plain (d ∷ ds) h = and_from _ _ h.0.plain (calls-plain ds h.1)

calls-light : (ds : List Data) → AreKept ds → items_weight (items_of ds) ≤ 20001 * length ds
calls-light [] h = omega arith
calls-light (d ∷ ds) h = let own = h.0.light in let rest = calls-light ds h.1 in omega (arith, own, rest)

calls-flat : (ds : List Data) → AreKept ds → items_depth (items_of ds) ≤ 2
calls-flat [] h = omega arith
calls-flat (d ∷ ds) h = let own = h.0.flat in let rest = calls-flat ds h.1 in omega (arith, own, rest)

-- ---- callers

abbrev pub AllKept : List (List Data) → Type 0
AllKept [] = ⊤
AllKept (ds ∷ rest) = AreKept ds × AllKept rest

callers-plain : (callers : List (List Data)) → AllKept callers → items_plain (items_of (map list callers)) ≡ true
callers-plain [] h = refl
callers-plain (ds ∷ rest) h = and_from _ _ (calls-plain ds h.0) (callers-plain rest h.1)

callers-light : (callers : List (List Data)) → AllKept callers → items_weight (items_of (map list callers)) ≤ 3 * length callers + 20001 * calls_in callers
callers-light [] h = omega arith
callers-light (ds ∷ rest) h = let own = calls-light ds h.0 in let more = callers-light rest h.1 in omega (arith, own, more)

callers-flat : (callers : List (List Data)) → AllKept callers → items_depth (items_of (map list callers)) ≤ 3
callers-flat [] h = omega arith
callers-flat (ds ∷ rest) h = let own = calls-flat ds h.0 in let more = callers-flat rest h.1 in omega (arith, own, more)

-- ---- a phase

pub phase-plain : (callers : List (List Data)) → AllKept callers → is_plain (phase callers) ≡ true
phase-plain callers h = rw (callers-plain callers h) refl

pub phase-light : (callers : List (List Data)) → AllKept callers → weight (phase callers) ≤ 60 + 3 * length callers + 20001 * calls_in callers
phase-light callers h = let inner = callers-light callers h in omega (arith, inner)

pub phase-flat : (callers : List (List Data)) → AllKept callers → depth (phase callers) ≤ 5
phase-flat callers h = let inner = callers-flat callers h in omega (arith, inner)
