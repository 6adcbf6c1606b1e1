-- Where what is named stands lower, the live objects are closed under naming, and a set that holds itself up from the roots lives.
use Rattle.std.proofs.Common.{ℕ, zero, suc, ◌-◌, ◌≡◌, ◌<◌, ◌≤◌, ◌∙◌, ◌⊎◌, inl, inr, Bool, true, Some, refl, sym, ap, subst, arith}
use Rattle.std.specs.Prelude.{nat_lt}
use Rattle.std.specs.Map.{keys_of}
use Rattle.std.specs.Option.{IsSomeAnd}
use Rattle.std.proofs.lemmas.Bool.{ltb-true}
use Rattle.dev_types.specs.declared.data_types.DataType.TheVariants as ty
use Rattle.kind_tables.specs.Ranks.{rank_of}
use Rattle.kind_tables.specs.declared.kinds.Kind.{Kind}
use Rattle.kind_tables.specs.declared.kinds.Kind.TheVariants.{Array}
use Rattle.seq_model.proofs.Growths.{Objects, in_within, is_in, lives_at, lives_from, named_is_in, root_is_in, why_in}
use Rattle.seq_model.proofs.Keys.{RisesWithin, at}
use Rattle.seq_model.specs.Life.{grown, has, live, names_of}
use Rattle.seq_model.specs.Soundness.{IsRanked}
use Rattle.seq_model.specs.State.{Object}

is_rank_low : (kind : Kind) → nat_lt (rank_of kind) 10 ≡ true
is_rank_low (Array ty.Int32) = refl
is_rank_low _ = refl

ranks_end : (kind : Kind) → rank_of kind < 10
ranks_end kind = ltb-true (rank_of kind) 10 (is_rank_low kind)

module _ (root : ℕ × Object → Bool) (low high : ℕ) (objects : Objects) (rising : RisesWithin low high (keys_of objects)) (ranked : IsRanked objects) where
  named_lower : (h k : ℕ) (o p : Object) → at h objects ≡ Some o → has k (names_of o) ≡ true → at k objects ≡ Some p → rank_of p.kind < rank_of o.kind
  named_lower h k o p found names there = subst (λ x. IsSomeAnd x (λ p. rank_of p.kind < rank_of o.kind)) there (ranked h o found k names)

  -- the chain to an object is no longer than the ranks above it
  stays_low : (n h : ℕ) (o : Object) → at h (grown root objects n) ≡ Some o → at h (grown root objects (9 - rank_of o.kind)) ≡ Some o
  stays_low zero h o found =
      let now : (at h objects ≡ Some o) × (root (h, o) ≡ true) = is_in root low high objects rising zero h o found in
      root_is_in root low high objects rising (9 - rank_of o.kind) h o now.0 now.1
  stays_low (suc n) h o found = by (λ k p. stays_low n k p) (why_in root low high objects rising n h o found)
    where
      there : at h objects ≡ Some o
      there = (is_in root low high objects rising (suc n) h o found).0

      by : ((k : ℕ) (p : Object) → at k (grown root objects n) ≡ Some p → at k (grown root objects (9 - rank_of p.kind)) ≡ Some p) →
          (root (h, o) ≡ true) ⊎ ((k : ℕ) × (p : Object) × (at k (grown root objects n) ≡ Some p) × (has h (names_of p) ≡ true)) → at h (grown root objects (9 - rank_of o.kind)) ≡ Some o
      by lower (inl is) = root_is_in root low high objects rising (9 - rank_of o.kind) h o there is
      by lower (inr (k, p, holder, names)) =
          let less : rank_of o.kind < rank_of p.kind = named_lower k h p o (is_in root low high objects rising n k p holder).0 names there in
          let top : rank_of p.kind < 10 = ranks_end p.kind in
          in_within root low high objects rising (suc (9 - rank_of p.kind)) (9 - rank_of o.kind) h o (omega (arith, less, top))
          (named_is_in root low high objects rising (9 - rank_of p.kind) h k o p (lower k p holder) names there)

  -- what a live object names lives
  pub closed : (h k : ℕ) (o p : Object) → at h (live root objects) ≡ Some o → has k (names_of o) ≡ true → at k objects ≡ Some p → at k (live root objects) ≡ Some p
  closed h k o p found names there =
      let deep : at h (grown root objects 10) ≡ Some o = lives_at root low high objects rising h o found in
      lives_from root low high objects rising k p
      (in_within root low high objects rising (suc (9 - rank_of o.kind)) 10 k p (omega arith)
      (named_is_in root low high objects rising (9 - rank_of o.kind) k h p o (stays_low 10 h o deep) names there))

  -- a member of a set that is a root, or is named by a member
  abbrev pub Supports : (ℕ → Type 0) → ℕ → Type 0
  Supports M k = (o : Object) × (at k objects ≡ Some o) × ((root (k, o) ≡ true) ⊎ ((j : ℕ) × (p : Object) × M j × (at j objects ≡ Some p) × (has k (names_of p) ≡ true)))

  supported_by : (M : ℕ → Type 0) → ((k : ℕ) → M k → Supports M k) → (d k : ℕ) (o : Object) → 9 - rank_of o.kind ≤ d → M k → at k objects ≡ Some o → at k (grown root objects d) ≡ Some o
  supported_by M holds zero k o short member found = by (holds k member)
    where
      by : (o : Object) × (at k objects ≡ Some o) × ((root (k, o) ≡ true) ⊎ ((j : ℕ) × (p : Object) × M j × (at j objects ≡ Some p) × (has k (names_of p) ≡ true))) → at k (grown root objects zero) ≡ Some o
      by (q, there, inl is) =
          let same : Some q ≡ Some o = sym there ∙ found in
          let value : q ≡ o = cc in
          root_is_in root low high objects rising zero k o found (ap (λ q. root (k, q)) (sym value) ∙ is)
      by (q, there, inr (j, p, member, holder, names)) =
          let less : rank_of o.kind < rank_of p.kind = named_lower j k p o holder names found in
          let top : rank_of p.kind < 10 = ranks_end p.kind in
          absurd (omega (arith, less, top, short))
  supported_by M holds (suc d) k o short member found = by (λ j p. supported_by M holds d j p) (holds k member)
    where
      by : ((j : ℕ) (p : Object) → 9 - rank_of p.kind ≤ d → M j → at j objects ≡ Some p → at j (grown root objects d) ≡ Some p) →
          (o : Object) × (at k objects ≡ Some o) × ((root (k, o) ≡ true) ⊎ ((j : ℕ) × (p : Object) × M j × (at j objects ≡ Some p) × (has k (names_of p) ≡ true))) → at k (grown root objects (suc d)) ≡ Some o
      by lower (q, there, inl is) =
          let same : Some q ≡ Some o = sym there ∙ found in
          let value : q ≡ o = cc in
          root_is_in root low high objects rising (suc d) k o found (ap (λ q. root (k, q)) (sym value) ∙ is)
      by lower (q, there, inr (j, p, member, holder, names)) =
          let less : rank_of o.kind < rank_of p.kind = named_lower j k p o holder names found in
          let top : rank_of p.kind < 10 = ranks_end p.kind in
          named_is_in root low high objects rising d k j o p (lower j p (omega (arith, less, top, short)) member holder) names found

  -- lives
  pub supported_lives : (M : ℕ → Type 0) → ((k : ℕ) → M k → Supports M k) → (k : ℕ) → M k → (o : Object) × (at k (live root objects) ≡ Some o)
  supported_lives M holds k member =
      let one = holds k member in (
        one.0,
        lives_from root low high objects rising k one.0
            (in_within root low high objects rising (9 - rank_of one.0.kind) 10 k one.0 (omega arith) (supported_by M holds (9 - rank_of one.0.kind) k one.0 (omega arith) member one.1)),
      )
