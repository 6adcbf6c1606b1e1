-- Bindings that are found by their labels are all that there are of them.
use Rattle.std.proofs.Common.{ℕ, ◌≡◌, ◌∙◌, ◌&&◌, Bool, true, false, List, [], ◌∷◌, ◌++◌, Option, Some, None, append_assoc, refl, sym, ap}
use Rattle.std.specs.Prelude.{cond}
use Rattle.std.specs.BTreeMap.{is_at}
use Rattle.std.specs.Cmp.Lexicographic.{slice_cmp}
use Rattle.std.specs.List.{find}
use Rattle.std.specs.Map.{lookup}
use Rattle.std.specs.Option.{option_map, option_map_or, option_or, unwrap_or}
use Rattle.std.specs.Ordering.{nat_cmp}
use Rattle.std.specs.Str.{bytes_eq}
use Rattle.std.proofs.lemmas.List.{append-nil}
use Rattle.std.proofs.lemmas.List.Elements.{filter-append}
use Rattle.std.proofs.lemmas.List.Folds.{find-append}
use Rattle.std.proofs.lemmas.Map.Text.{is_eq-slice_cmp}
use Rattle.std.proofs.lemmas.Slice.Eq.{bytes_eq-Decides}
use Rattle.replay_core.specs.Found.{Adds, AreFound, ByLabel, Joins, Keeps, bound_to, first_known, found, object_of}
use Rattle.replay_core.specs.Labels.{handle_of, is_known}
use Rattle.replay_core.specs.Views.{kept_apart, known_to}
use Rattle.replay_core.specs.declared.bindings.Binding.{Binding}

-- the first that is known among the bindings of a label is the first that the label means
known_of_label : (label : List ℕ) (phase caller : ℕ) (bound : List Binding) → find (λ b. is_known phase caller b) (bound_to label bound) ≡ find (λ b. bytes_eq b.label label && is_known phase caller b) bound
known_of_label label phase caller [] = refl
known_of_label label phase caller (b ∷ bound) = by (bytes_eq b.label label) (known_of_label label phase caller bound)
  where
    by : (same : Bool) → find (λ b. is_known phase caller b) (bound_to label bound) ≡ find (λ b. bytes_eq b.label label && is_known phase caller b) bound →
        find (λ b. is_known phase caller b) (cond same (b ∷ bound_to label bound) (bound_to label bound))
        ≡ cond (same && is_known phase caller b) (Some b) (find (λ b. bytes_eq b.label label && is_known phase caller b) bound)
    by true rest = ap (cond (is_known phase caller b) (Some b)) rest
    by false rest = rest

pub means : (entries : ByLabel) (bound : List Binding) (label : List ℕ) (phase caller : ℕ) (listed : List Binding) → AreFound entries bound → found entries label ≡ listed →
    first_known listed phase caller ≡ object_of bound phase caller label
means entries bound label phase caller listed are is =
    ap (λ (list : List Binding). first_known list phase caller) (sym is ∙ are label) ∙ ap (λ (x : Option Binding). option_map (λ b. b.handle) x) (known_of_label label phase caller bound)

-- a label means the first that is known, of what was bound before and behind it
handle_in : (x : Option Binding) (handle : ℕ) → option_map (λ b. b.handle) x ≡ Some handle → option_map_or (λ b. b.handle) x 0 ≡ handle
handle_in None handle is = absurd cc
handle_in (Some b) handle is = let same : b.handle ≡ handle = cc in same

first_of_both : (x y : Option Binding) (handle : ℕ) → option_map (λ b. b.handle) x ≡ Some handle → option_map_or (λ b. b.handle) (option_or x y) 0 ≡ handle
first_of_both None y handle is = absurd cc
first_of_both (Some b) y handle is = let same : b.handle ≡ handle = cc in same

second_of_both : (x y : Option Binding) → option_map (λ b. b.handle) x ≡ None → option_map_or (λ b. b.handle) (option_or x y) 0 ≡ unwrap_or (option_map (λ b. b.handle) y) 0
second_of_both None None is = refl
second_of_both None (Some b) is = refl
second_of_both (Some b) y is = absurd cc

pub means_first : (bound : List Binding) (own : Option (List Binding)) (phase caller : ℕ) (label : List ℕ) (handle : ℕ) → object_of bound phase caller label ≡ Some handle →
    handle_of (known_to bound own) phase caller label ≡ handle
means_first bound None phase caller label handle is = handle_in (find (λ b. bytes_eq b.label label && is_known phase caller b) bound) handle is
means_first bound (Some own) phase caller label handle is =
    ap (λ (x : Option Binding). option_map_or (λ b. b.handle) x 0) (find-append (λ (b : Binding). bytes_eq b.label label && is_known phase caller b) bound own)
    ∙ first_of_both (find (λ b. bytes_eq b.label label && is_known phase caller b) bound) (find (λ b. bytes_eq b.label label && is_known phase caller b) own) handle is

nothing_known : (x : Option Binding) → option_map (λ b. b.handle) x ≡ None → option_map_or (λ b. b.handle) x 0 ≡ 0
nothing_known None is = refl
nothing_known (Some b) is = absurd cc

pub means_own : (bound : List Binding) (own : Option (List Binding)) (phase caller : ℕ) (label : List ℕ) → object_of bound phase caller label ≡ None →
    handle_of (known_to bound own) phase caller label ≡ unwrap_or (object_of (kept_apart own) phase caller label) 0
means_own bound None phase caller label is = nothing_known (find (λ b. bytes_eq b.label label && is_known phase caller b) bound) is
means_own bound (Some own) phase caller label is =
    ap (λ (x : Option Binding). option_map_or (λ b. b.handle) x 0) (find-append (λ (b : Binding). bytes_eq b.label label && is_known phase caller b) bound own)
    ∙ second_of_both (find (λ b. bytes_eq b.label label && is_known phase caller b) bound) (find (λ b. bytes_eq b.label label && is_known phase caller b) own) is

-- where a map has this list under a label, and elsewhere what it had
abbrev pub HasAt : ByLabel → ByLabel → List ℕ → List Binding → Type 0
HasAt old new label list = (q : List ℕ) → lookup (is_at (slice_cmp nat_cmp q)) new ≡ cond (is_at (slice_cmp nat_cmp label) q) (Some list) (lookup (is_at (slice_cmp nat_cmp q)) old)

same_label : (x y : List ℕ) → bytes_eq x y ≡ true → x ≡ y
same_label x y is = (bytes_eq-Decides x y).0 is

pub adds : (old new : ByLabel) (at : List ℕ) (list : List Binding) (before : Option (List Binding)) → HasAt old new at (unwrap_or before [] ++ list) → lookup (is_at (slice_cmp nat_cmp at)) old ≡ before →
    Adds old at list new
adds old new at list before now was = λ label. by label (bytes_eq at label) refl
  where
    here : (label : List ℕ) (same : Bool) → bytes_eq at label ≡ same → found new label ≡ unwrap_or (cond same (Some (unwrap_or before [] ++ list)) (lookup (is_at (slice_cmp nat_cmp label)) old)) []
    here label same is =
        ap (λ (x : Option (List Binding)). unwrap_or x []) (now label ∙ ap (λ t. cond t (Some (unwrap_or before [] ++ list)) (lookup (is_at (slice_cmp nat_cmp label)) old)) (is_eq-slice_cmp at label ∙ is))

    by : (label : List ℕ) (same : Bool) → bytes_eq at label ≡ same → found new label ≡ found old label ++ cond (bytes_eq at label) list []
    by label true is =
        let before_is : unwrap_or before [] ≡ found old label = ap (λ (x : Option (List Binding)). unwrap_or x []) (sym was) ∙ ap (found old) (same_label at label is) in
        here label true is ∙ ap (λ (first : List Binding). first ++ list) before_is ∙ ap (λ t. found old label ++ cond t list []) (sym is)
    by label false is = here label false is ∙ sym (append-nil (found old label)) ∙ ap (λ t. found old label ++ cond t list []) (sym is)

-- where it has what it had, nothing changed
pub keeps : (old new : ByLabel) (label : List ℕ) (list : List Binding) → HasAt old new label list → lookup (is_at (slice_cmp nat_cmp label)) old ≡ Some list → Keeps old new
keeps old new label list now was = λ q. ap (λ (x : Option (List Binding)). unwrap_or x []) (by q (bytes_eq label q) refl)
  where
    by : (q : List ℕ) (same : Bool) → bytes_eq label q ≡ same → lookup (is_at (slice_cmp nat_cmp q)) new ≡ lookup (is_at (slice_cmp nat_cmp q)) old
    by q true is =
        now q ∙ ap (λ t. cond t (Some list) (lookup (is_at (slice_cmp nat_cmp q)) old)) (is_eq-slice_cmp label q ∙ is)
        ∙ sym was ∙ ap (λ label. lookup (is_at (slice_cmp nat_cmp label)) old) (same_label label q is)
    by q false is = now q ∙ ap (λ t. cond t (Some list) (lookup (is_at (slice_cmp nat_cmp q)) old)) (is_eq-slice_cmp label q ∙ is)

-- what is found stays what there is
pub found_more : (old new : ByLabel) (bound : List Binding) (b : Binding) → AreFound old bound → Adds old b.label (b ∷ []) new → AreFound new (bound ++ b ∷ [])
found_more old new bound b are added = λ label. added label ∙ ap (λ (list : List Binding). list ++ bound_to label (b ∷ [])) (are label) ∙ sym (filter-append (λ (b : Binding). bytes_eq b.label label) bound (b ∷ []))

pub found_still : (old new : ByLabel) (bound : List Binding) → AreFound old bound → Keeps old new → AreFound new bound
found_still old new bound are kept = λ label. kept label ∙ are label

pub found_both : (first other all : ByLabel) (bound more : List Binding) → AreFound first bound → AreFound other more → Joins first other all → AreFound all (bound ++ more)
found_both first other all bound more are others joins = λ label.
    joins label ∙ ap (λ (list : List Binding). list ++ found other label) (are label) ∙ ap (λ (list : List Binding). bound_to label bound ++ list) (others label)
    ∙ sym (filter-append (λ (b : Binding). bytes_eq b.label label) bound more)

-- the lists of a map are put under their labels, one after the other; `left` are those that are still to be put
pub joins_none : (by_label left : ByLabel) → left ≡ [] → Joins by_label left by_label
joins_none by_label left none = λ label. sym (ap (λ entries. found by_label label ++ found entries label) none ∙ append-nil (found by_label label))

pub joins_one : (old new left rest target : ByLabel) (at : List ℕ) (list : List Binding)
    → ((q : List ℕ) → lookup (is_at (slice_cmp nat_cmp q)) rest ≡ cond (is_at (slice_cmp nat_cmp at) q) None (lookup (is_at (slice_cmp nat_cmp q)) left))
    → lookup (is_at (slice_cmp nat_cmp at)) left ≡ Some list
    → Adds old at list new → Joins new rest target → Joins old left target
joins_one old new left rest target at list taken was added joins = λ label.
    joins label ∙ ap (λ (first : List Binding). first ++ found rest label) (added label) ∙ append_assoc (found old label) (cond (bytes_eq at label) list []) (found rest label)
    ∙ ap (λ (other : List Binding). found old label ++ other) (by label (bytes_eq at label) refl)
  where
    rest_is : (label : List ℕ) (same : Bool) → bytes_eq at label ≡ same → found rest label ≡ unwrap_or (cond same None (lookup (is_at (slice_cmp nat_cmp label)) left)) []
    rest_is label same is =
        ap (λ (x : Option (List Binding)). unwrap_or x []) (taken label ∙ ap (λ t. cond t None (lookup (is_at (slice_cmp nat_cmp label)) left)) (is_eq-slice_cmp at label ∙ is))

    by : (label : List ℕ) (same : Bool) → bytes_eq at label ≡ same → cond (bytes_eq at label) list [] ++ found rest label ≡ found left label
    by label true is =
        let there : found left label ≡ list = ap (found left) (sym (same_label at label is)) ∙ ap (λ (x : Option (List Binding)). unwrap_or x []) was in
        ap (λ t. cond t list [] ++ found rest label) is ∙ ap (λ (other : List Binding). list ++ other) (rest_is label true is) ∙ append-nil list ∙ sym there
    by label false is = ap (λ t. cond t list [] ++ found rest label) is ∙ rest_is label false is
