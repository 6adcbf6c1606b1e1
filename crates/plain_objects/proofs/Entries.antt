-- Objects by their handles.
use Rattle.std.proofs.Common.{◌≡◌, ◌∙◌, ℕ, ◌+◌, ◌++◌, Bool, true, false, List, [], ◌∷◌, Option, Some, None, Bor, option_copied, ap, sym, refl}
use Rattle.std.specs.Option.{option_map, unwrap_or}
use Rattle.std.specs.BTreeMap.{is_at}
use Rattle.std.specs.Map.{lookup, set_value}
use Rattle.std.specs.Ordering.{nat_cmp}
use Rattle.std.proofs.lemmas.Map.Steps.{set_value_same}
use Rattle.seq_model.specs.State.{Object, State, changed_at, with_object, object_at, scene_object, scene_objects}
use Rattle.kind_tables.specs.SceneObjects.{object_at as scene_at}
use Rattle.handle_table.specs.HandleMaps.{HandleMap, with_value}
use Rattle.plain_objects.specs.Shown.{changed_in}
use Rattle.seq_model.proofs.Keys.{at, at_changed, at_map}

-- what is written back as it was changes nothing
pub written_back : (h : ℕ) (es : List (ℕ × Object)) (o p : Object) → lookup (is_at (nat_cmp h)) es ≡ Some o → p ≡ o → set_value (is_at (nat_cmp h)) es p ≡ es
written_back h es o p found same = ap (set_value (is_at (nat_cmp h)) es) same ∙ set_value_same (is_at (nat_cmp h)) es o found

-- an object as a scene sees it
pub seen_at : (s : State) (h : ℕ) (found : Option Object) → found ≡ object_at s h → option_map scene_object found ≡ scene_at (scene_objects s) h
seen_at s h found is = ap (option_map scene_object) is ∙ sym (at_map scene_object h s.objects)

-- what is made of what is lent
pub map_copied : {X Y : Type 0} (f : X → Y) (found : Option (Bor X)) → option_map (λ b. f b.now) found ≡ option_map f (option_copied found)
map_copied f None = refl
map_copied f (Some b) = refl

-- two changes of one object, one after the other
set_twice : {X : Type 0} (test : ℕ → Bool) (es : List (ℕ × X)) (v w : X) → set_value test (set_value test es v) w ≡ set_value test es w
set_twice test [] v w = refl
set_twice test (e ∷ es) v w = by (test e.0) refl (set_twice test es v w)
  where
    by : (t : Bool) → test e.0 ≡ t → set_value test (set_value test es v) w ≡ set_value test es w → set_value test (set_value test (e ∷ es) v) w ≡ set_value test (e ∷ es) w
    by true is rest = rw is (rw is refl)
    by false is rest = rw is (rw is (ap (λ rest. e ∷ rest) rest))

pub changed_twice : (h : ℕ) (f g : Object → Object) (s : State) → changed_at h f (changed_at h g s) ≡ changed_at h (λ o. f (g o)) s
changed_twice h f g s = by (object_at s h) refl
  where
    by : (found : Option Object) → object_at s h ≡ found → changed_at h f (changed_at h g s) ≡ changed_at h (λ o. f (g o)) s
    by None is = rw is (rw is refl)
    by (Some o) is =
        let now : lookup (is_at (nat_cmp h)) (set_value (is_at (nat_cmp h)) s.objects (g o)) ≡ Some (g o) = at_changed h s.objects o (g o) is in
        rw is (rw now (ap (λ es. record s { objects = es }) (set_twice (is_at (nat_cmp h)) s.objects (g o) (f (g o)))))

-- a table with a change at one handle and one more object, as a state
pub taken_in : (h : ℕ) (f : ℕ → Object → Object) (g : Object → Object) (array : Object) (s : State) (old mid new : HandleMap Object) (stopped : List ℕ) (made : ℕ) →
    old.entries ≡ s.objects → old.next ≡ s.next → stopped ≡ s.stopped → made ≡ s.next →
    mid ≡ changed_in h (λ o. f made (g o)) old → mid.next ≡ old.next → new.entries ≡ mid.entries ++ (mid.next, array) ∷ [] → new.next ≡ mid.next + 1 →
    record { objects = new.entries; stopped = stopped; next = new.next } ≡ with_object array (changed_at h (f s.next) (changed_at h g s))
taken_in h f g array s old mid new stopped made objects next stays is changed same added more =
    let both : changed_at h (f s.next) (changed_at h g s) ≡ changed_at h (λ o. f s.next (g o)) s = changed_twice h (f s.next) g s in
    let entries : mid.entries ≡ (changed_at h (λ o. f s.next (g o)) s).objects =
    ap (λ t. t.entries) changed ∙ ap (λ n. (changed_in h (λ o. f n (g o)) old).entries) is ∙ entries_by (at h old.entries) old
    ∙ ap (λ es. unwrap_or (option_map (λ o. set_value (is_at (nat_cmp h)) es (f s.next (g o))) (at h es)) es) objects in
    let one : record { objects = new.entries; stopped = stopped; next = new.next } ≡ with_object array (changed_at h (λ o. f s.next (g o)) s) =
    as_state entries (added ∙ ap (λ n. mid.entries ++ (n, array) ∷ []) (same ∙ next)) (more ∙ ap (λ n. n + 1) (same ∙ next)) in
    one ∙ ap (with_object array) (sym both)
  where
    as_state : mid.entries ≡ (changed_at h (λ o. f s.next (g o)) s).objects → new.entries ≡ mid.entries ++ (s.next, array) ∷ [] → new.next ≡ s.next + 1 →
        record { objects = new.entries; stopped = stopped; next = new.next } ≡ with_object array (changed_at h (λ o. f s.next (g o)) s)
    as_state entries added more =
        ap (λ es. record { objects = es; stopped = stopped; next = new.next }) (added ∙ ap (λ es. es ++ (s.next, array) ∷ []) entries)
        ∙ ap (λ n. record { objects = (changed_at h (λ o. f s.next (g o)) s).objects ++ (s.next, array) ∷ []; stopped = stopped; next = n }) more
        ∙ ap (λ ts. record { objects = (changed_at h (λ o. f s.next (g o)) s).objects ++ (s.next, array) ∷ []; stopped = ts; next = s.next + 1 }) stays

    entries_by : (found : Option Object) (t : HandleMap Object) →
        (unwrap_or (option_map (λ o. with_value t h (f s.next (g o))) found) t).entries ≡ unwrap_or (option_map (λ o. set_value (is_at (nat_cmp h)) t.entries (f s.next (g o))) found) t.entries
    entries_by None t = refl
    entries_by (Some o) t = refl
