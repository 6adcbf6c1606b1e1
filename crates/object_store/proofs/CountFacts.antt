-- What the parts of a store tell of its objects and counts.
use Rattle.std.proofs.Common.{ℕ, ◌+◌, ◌≡◌, ◌<◌, ◌∙◌, Bool, true, false, List, [], ◌∷◌, refl, sym, ap, arith}
use Rattle.std.specs.Option.{IsSome, is_some}
use Rattle.handle_table.specs.HandleMaps.{HandleMap, RiseWithin}
use Rattle.array_objects.specs.Stores.{Arrays, array_at}
use Rattle.ref_counts.specs.CountMaps.{CountMap, counts_at, named_at, public_at}
use Rattle.object_store.specs.Kept.{AreParts, CountsItsObjects, Stops, names_in, stored}
use Rattle.object_store.specs.Parts.{Part, at, joined, keyed, object_of}
use Rattle.object_store.proofs.Counted.{none_by, unnamed_by}
use Rattle.object_store.proofs.Holdings.{held_at}
use Rattle.object_store.proofs.Keyed.{keys_keyed}

-- a map whose values are changed rises as before
rise_keyed : {X Y : Type 0} (f : ℕ → X → Y) (low high : ℕ) (es : List (ℕ × X)) → RiseWithin low high es → RiseWithin low high (keyed f es)
rise_keyed f low high [] up = up
rise_keyed f low high (e ∷ es) up = (up.0, rise_keyed f (e.0 + 1) high es up.1)

-- what the objects name is there
names_are_there : (slots : HandleMap Part) (arrays : Arrays) (counts : CountMap) (bound : ℕ) → AreParts slots arrays counts bound → (h : ℕ) → 0 < names_in (joined arrays slots.entries) h →
    IsSome (at h (joined arrays slots.entries))
names_are_there slots arrays counts bound parts h named = by (is_some (at h (joined arrays slots.entries))) refl (is_some (counts_at counts h)) refl
  where
    some : 0 < named_at counts h
    some = omega (arith, parts.counted.named h, named)

    by : (t : Bool) → is_some (at h (joined arrays slots.entries)) ≡ t → (u : Bool) → is_some (counts_at counts h) ≡ u → IsSome (at h (joined arrays slots.entries))
    by true is u _ = is
    by false is false none = absurd (omega (arith, some, unnamed_by counts h (none_by (counts_at counts h) none)))
    by false is true there =
        let next : h ≡ slots.next = (parts.counted.only h (none_by (at h (joined arrays slots.entries)) is) there).0 in
        let free : named_at counts h ≡ 0 = ap (named_at counts) next ∙ parts.counted.free in
        absurd (omega (arith, some, free))

pub counts_them : (slots : HandleMap Part) (arrays : Arrays) (counts : CountMap) (stopped : Stops) (bound : ℕ) → AreParts slots arrays counts bound → CountsItsObjects (stored slots arrays counts stopped)
counts_them slots arrays counts stopped bound parts = record {
  rising = rise_keyed (λ h part. object_of part (array_at arrays h)) 1 slots.next slots.entries parts.rising;
  public = keys_keyed (λ h (part : Part). public_at counts h) slots.entries ∙ sym (keys_keyed (λ h part. object_of part (array_at arrays h)) slots.entries);
  holds = keys_keyed (λ h (part : Part). part.holds) slots.entries ∙ sym (keys_keyed (λ h part. object_of part (array_at arrays h)) slots.entries);
  closed = λ h named. names_are_there slots arrays counts bound parts h named;
  few = λ h. let held = held_at (stored slots arrays counts stopped) slots arrays counts stopped h refl in omega (arith, held, parts.few h);
}
