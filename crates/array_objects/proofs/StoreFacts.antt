-- What a change at one handle leaves of a store.
use Rattle.std.proofs.Common.{◌≡◌, ℕ, Bool, true, true≢false, List, length, Some, None, IsSome, cond, refl, sym, ap, subst, ◌∙◌, inl, inr, option_map}
use Rattle.std.proofs.lemmas.Bool.{cases_eq}
use Rattle.std.proofs.lemmas.Cmp.{eq_by_cmp_equiv, nat_cmp_total}
use Rattle.std.proofs.lemmas.Map.{lookup-set_value}
use Rattle.std.proofs.lemmas.Option.{none-some}
use Rattle.std.specs.BTreeMap.{is_at}
use Rattle.std.specs.Ordering.{nat_cmp, is_eq, eq_by_cmp}
use Rattle.std.specs.declared.option.Option.{Option}
use Rattle.handle_table.proofs.SlotLemmas.{is_at-same, is_at-other}
use Rattle.dev_types.specs.Blocks.{FitsBlock}
use Rattle.array_objects.specs.declared.arrays.Array.{Array}
use Rattle.array_objects.specs.Stores.{Arrays, array_at, with_change, changed_at, unmapped, mapped, IsOut, block_at, Fits, AllFit, ChangesAt}

-- the new store has this at the handle, as std's maps say it
abbrev pub UpdatesAt : Arrays → Arrays → ℕ → Option Array → Type 0
UpdatesAt old new h v = (q : ℕ) → array_at new q ≡ cond (is_at (nat_cmp h) q) v (array_at old q)

pub ChangesAt-update : (old new : Arrays) (h : ℕ) (v : Option Array) → UpdatesAt old new h v → ChangesAt old new h v
ChangesAt-update old new h v updates = record {
  changed = updates h ∙ ap (λ (b : Bool). cond b v (array_at old h)) (is_at-same h h refl);
  others = λ other apart. updates other ∙ ap (λ (b : Bool). cond b v (array_at old other)) (is_at-other h other (λ (e : h ≡ other). apart (sym e)));
}

-- where the new array fits, all fit
pub AllFit-update : (old new : Arrays) (h : ℕ) (v : Option Array) → AllFit old → ((a : Array) → v ≡ Some a → Fits a.block) → UpdatesAt old new h v → AllFit new
AllFit-update old new h v fit fits updates o a at = elim (cases_eq o h) [
  | inl same ↦ fits a (sym changes.changed ∙ subst (λ x. array_at new x ≡ Some a) same at)
  | inr apart ↦ fit o a (sym (changes.others o apart) ∙ at)
]
  where
    changes : ChangesAt old new h v
    changes = ChangesAt-update old new h v updates

-- a change of what is there, said as an update
changed-update : (m : Arrays) (h : ℕ) (change : Array → Array) (q : ℕ) → array_at (changed_at m h change) q ≡ cond (is_at (nat_cmp h) q) (option_map change (array_at m h)) (array_at m q)
changed-update m h change q = found (array_at m h) refl
  where
    one : (x y : ℕ) → is_at (nat_cmp h) x ≡ true → is_at (nat_cmp h) y ≡ eq_by_cmp nat_cmp x y
    one x y at = elim (cases_eq h x) [
      | inl same ↦ ap (λ n. is_eq (nat_cmp n y)) same
      | inr apart ↦ absurd (true≢false (sym at ∙ is_at-other h x apart))
    ]

    found : (o : Option Array) → array_at m h ≡ o → array_at (with_change m h change o) q ≡ cond (is_at (nat_cmp h) q) (option_map change o) (array_at m q)
    found None is = elim (cases_eq h q) [
      | inl same ↦ subst (λ x. array_at m x ≡ None) same is ∙ sym (ap (λ (b : Bool). cond b None (array_at m q)) (is_at-same h q same))
      | inr apart ↦ sym (ap (λ (b : Bool). cond b None (array_at m q)) (is_at-other h q apart))
    ]
    found (Some a) is =
        lookup-set_value (eq_by_cmp_equiv nat_cmp_total) (is_at (nat_cmp h)) one q (change a) m (subst IsSome (sym is) refl)

-- a change that keeps the fit of a block keeps that of all
pub AllFit-changed : (m : Arrays) (h : ℕ) (change : Array → Array) → AllFit m → ((a : Array) → array_at m h ≡ Some a → Fits (change a).block) → AllFit (changed_at m h change)
AllFit-changed m h change fit keeps = AllFit-update m (changed_at m h change) h (option_map change (array_at m h)) fit (kept (array_at m h) refl) (changed-update m h change)
  where
    kept : (o : Option Array) → array_at m h ≡ o → (a : Array) → option_map change o ≡ Some a → Fits a.block
    kept None is a e = absurd (none-some a e)
    kept (Some b) is a e = let same : change b ≡ a = cc in subst (λ (x : Array). Fits x.block) same (keeps b is)

pub ChangesAt-changed : (m : Arrays) (h : ℕ) (change : Array → Array) → ChangesAt m (changed_at m h change) h (option_map change (array_at m h))
ChangesAt-changed m h change = ChangesAt-update m (changed_at m h change) h (option_map change (array_at m h)) (changed-update m h change)

-- a loan that is noted leaves the block as it is
pub block_at-mapped : (m : Arrays) (h number : ℕ) → block_at (changed_at m h (mapped number)) h ≡ block_at m h
block_at-mapped m h number = ap (option_map (λ (a : Array). a.block)) (ChangesAt-changed m h (mapped number)).changed ∙ same (array_at m h)
  where
    same : (o : Option Array) → option_map (λ (a : Array). a.block) (option_map (mapped number) o) ≡ option_map (λ (a : Array). a.block) o
    same None = refl
    same (Some a) = refl

-- content of the length of a loan that is out fits as the old one did
pub Fits-unmapped : (m : Arrays) (h number : ℕ) (content : List ℕ) → AllFit m → IsOut (array_at m h) number (length content) → (a : Array) → array_at m h ≡ Some a → Fits (unmapped content a).block
Fits-unmapped m h number content fit out a at =
    let lent : IsOut (Some a) number (length content) = subst (λ (o : Option Array). IsOut o number (length content)) at out in
    subst (FitsBlock a.block.ty a.block.stride a.block.count) lent.1 (fit h a at)
