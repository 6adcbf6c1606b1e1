-- Each step on the turn's table keeps its rule.
use Rattle.std.proofs.Common.{◌≡◌, ◌≢◌, ℕ, zero, suc, ◌+◌, ◌*◌, ◌^◌, ◌<◌, ◌≤◌, List, [], ◌∷◌, Option, Some, None, true, false, true≢false, max, length, set, get_or, eqb, ne_eqb, refl, sym, ap, ◌∙◌, subst, ⊎_elim, arith}
use mathlib.Core.Option.{some, none, some-injective, some-ne-none}
use mathlib.Core.Option as maybe
use lib.ListN.{get_elem?}
use Rattle.std.specs.List.{sum_by}
use Rattle.std.proofs.lemmas.List.Sums.{sum_by_push}
use Rattle.atomic_table.specs.Table.{State, step, Act, keeps, takes, gives, Valid, stepped, Allows, Splits, Joins, Final, Seen, opening, carried_after, rest}
use Rattle.atomic_table.proofs.Lists.{at_set, at_snoc, at_longer, set_here, set_else, set_again}
use mathlib.Core.Logic.{dite}
use native.Mathlib.Decide.{ℕ_discrete}
use prog.Atomic.{either}
use Rattle.std.proofs.Math.Nat.{pow-succ'}
use Rattle.turn_lock.specs.declared.view.View.{View}
use Rattle.dev_types.specs.Counting.{times}
use Rattle.turn_lock.specs.Histories.{Extends, places, new_places, AreRising, longer, callers}
use Rattle.turn_lock.specs.Views.{parts_at, IsWhole, first_view, spent_view, view_in, entering, leaving, halved, beside, joined}
use Rattle.std.proofs.lemmas.List.{set-get_or}
use Rattle.turn_lock.specs.Rule.{Knows, Kept, Sat, Grabs, Looks, LetsGo}
use Rattle.dev_types.proofs.SumLaws.{sum_set, sum_same, sum_at, sum_none, sum_double, at_length}
use Rattle.turn_lock.proofs.ShareLaws.{finer, parts_at-half, parts_at-both, parts_at-whole, parts_at-none}
use Rattle.turn_lock.proofs.PlaceLaws.{times-append, times-merged, times-rising, rising-wider, rising-append, rising-merged, rising-same, rising-places, places-extended, rising-new_places, places_from-notes, extends-same, extends-later, extends-length, longer-extends, shorter-longer, length-longer}

off : false ≡ true → ⊥
off e = true≢false (sym e)

module _ {S E F : Type 0} (history : S → List E) (fixed : S → F) (by : E → Option ℕ) (given : F) where
  abbrev Rule : State (Option S) (View E F) → Type 0
  Rule = Kept history fixed by given

  -- each other view knows as much, and the new one knows this
  knows_set : (log : List E) (word holder scale : ℕ) (views : List (View E F)) (id : ℕ) (w : View E F)
      → ((j : ℕ) (u : View E F) → j ≢ id → get_elem? views j ≡ some u → Knows given log word holder scale j u)
      → Knows given log word holder scale id w
      → (j : ℕ) (u : View E F) → get_elem? (set views id w) j ≡ some u → Knows given log word holder scale j u
  knows_set log word holder scale views id w others mine j u at = ⊎_elim
      (λ (x : (j ≡ id) × (w ≡ u)). subst (λ (y : ℕ × View E F). Knows given log word holder scale y.0 y.1) (λ i. (sym x.0 i, x.1 i)) mine)
      (λ (x : (j ≢ id) × (get_elem? views j ≡ some u)). others j u x.0 x.1)
      (at_set views id j w u at)

  -- grab

  abbrev GrabGoes : List ℕ → List (maybe.Option (Option S)) → List (View E F) → ℕ → View E F → List (ℕ × Option S) → ℕ → Type 0
  GrabGoes words homes views id v c slots =
      let s : State (Option S) (View E F) = record { words = words; homes = homes; views = views } in
      let found : ℕ = get_or words 0 0 in
      (w : View E F) × (a : Act (Option S)) × Valid homes c a × Rule (stepped s 0 (either (eqb found 0) 1 found) id c w a) × Grabs history fixed (step slots 0 0 1 none) (v, c) found (w, carried_after c a)

  grab_goes : (word : ℕ) (homes : List (maybe.Option (Option S))) (views : List (View E F)) (id : ℕ) (v : View E F) (c : List (ℕ × Option S)) (slots : ℕ)
      → (k : Rule record { words = word ∷ []; homes = homes; views = views }) → k.word ≡ word → get_elem? views id ≡ some v → 0 < v.share.parts
      → GrabGoes (word ∷ []) homes views id v c slots
  grab_goes zero homes views id v c slots k is at unspent =
      let home = k.home is in
      let x : S = home.0 in
      let w : View E F = entering v (history x) in
      let mine = k.each id v at in (
        w,
        takes 0 (Some x),
        home.1,
        record {
          log = k.log;
          word = 1;
          holder = id;
          scale = k.scale;
          words = refl;
          home = λ none. absurd (omega (arith, none));
          away = λ _. (refl, (w, set_here views id w (at_length views id v at), refl));
          each = knows_set k.log 1 id k.scale views id w
              (λ j u apart there. let old = k.each j u there in record { seen = old.seen; older = old.older; rises = old.rises; holds = λ held. absurd (omega (arith, (old.holds held).0)); spent = old.spent; fixed = old.fixed; scaled = old.scaled })
              record { seen = mine.seen; older = mine.older; rises = mine.rises; holds = λ _. (refl, refl, home.2); spent = λ none. absurd (omega (arith, none)); fixed = mine.fixed; scaled = mine.scaled };
          counted = λ p. sum_same (λ (u : View E F). times p u.mine) views id v w at refl ∙ k.counted p;
          shared = sum_same (λ (u : View E F). parts_at k.scale u.share) views id v w at refl ∙ k.shared;
        },
        ((λ _. (x, refl, subst (Extends v.seen) (sym home.2) mine.seen, mine.fixed unspent ∙ ap (λ (f : F). Some f) (sym home.3))), (λ taken. absurd (taken refl))),
      )
  grab_goes (suc n) homes views id v c slots k is at unspent = (
    v,
    keeps,
    tt,
    (let same : either (eqb (suc n) 0) 1 (suc n) ≡ suc n = ap (λ b. either b 1 (suc n)) (ne_eqb (suc n) 0 (λ e. omega (arith, e))) in
        subst (λ (t : ℕ × List (View E F)). Rule record { words = t.0 ∷ []; homes = homes; views = t.1 }) (λ i. (sym same i, sym (set_again views id v at) i)) k),
    ((λ none. absurd (omega (arith, none))), (λ _. refl)),
  )

  pub grabs : (slots id : ℕ) (me : Sat S E F) → 0 < me.0.share.parts
      → Allows Rule slots id me 0 (λ n. either (eqb n 0) 1 n) (Grabs history fixed (step slots 0 0 1 none) me)
  grabs slots id me unspent s k deep at fits =
      subst (λ ws. (kept : Rule record { words = ws; homes = s.homes; views = s.views }) → ws ≡ kept.word ∷ [] → GrabGoes ws s.homes s.views id me.0 me.1 slots) (sym k.words)
      (λ kept same. grab_goes k.word s.homes s.views id me.0 me.1 slots kept (cc same) at unspent) k k.words

  -- look

  pub looks : (slots id : ℕ) (me : Sat S E F) → Allows Rule slots id me 0 (λ n. n) (Looks (step slots 0 0 0 none) me)
  looks slots id me s k deep at fits = (
    me.0,
    keeps,
    tt,
    subst (λ (t : List ℕ × List (View E F)). Rule record { words = t.0; homes = s.homes; views = t.1 }) (λ i. (sym (set-get_or s.words 0 0) i, sym (set_again s.views id me.0 at) i)) k,
    (refl, (k.each id me.0 at).rises, (k.each id me.0 at).older),
  )

  -- let go

  same_hand : (x y : S) → ◌≡◌ {A = List (ℕ × Option S)} ((0, Some x) ∷ []) ((0, Some y) ∷ []) → x ≡ y
  same_hand x y e =
      let head : ◌≡◌ {A = ℕ × Option S} (0, Some x) (0, Some y) = cc in
      let state : Some x ≡ Some y = ap (λ (t : ℕ × Option S). t.1) head in
      cc

  -- with the history that the state has now
  left_each : (log : List E) (word holder scale id : ℕ) (v : View E F) (x : S)
      → Knows given log word holder scale id v → v.holding ≡ true → 0 < v.share.parts → Extends v.entered (history x)
      → Knows given (history x) 0 holder scale id (leaving by v (history x))
  left_each log word holder scale id v x knows holding unspent adds =
      let entered : v.entered ≡ log = (knows.holds holding).2 in
      let upto : length v.seen ≤ length v.entered = omega (arith, extends-length v.seen log knows.seen, ap length entered) in
      let front : AreRising 0 (length v.entered) v.mine = rising-wider 0 0 (length v.seen) (length v.entered) v.mine (omega arith) upto knows.rises in
      record {
        seen = extends-same (history x);
        older = (history x, refl);
        rises = rising-append 0 (length v.entered) (length (history x)) v.mine (new_places by v.entered (history x)) (omega arith) (extends-length v.entered (history x) adds) front (rising-new_places by v.entered (history x) adds);
        holds = λ held. absurd (off held);
        spent = λ none. absurd (omega (arith, none));
        fixed = knows.fixed;
        scaled = knows.scaled;
      }

  pub lets_go : (slots id : ℕ) (v : View E F) (x : S)
      → slots ≡ 1 → v.holding ≡ true → 0 < v.share.parts → v.fixed ≡ Some (fixed x) → Extends v.entered (history x)
      → Allows Rule slots id (v, (0, Some x) ∷ []) 0 (λ _. 0) (λ _. LetsGo history by (step slots 0 0 0 none) (v, (0, Some x) ∷ []) 0)
  lets_go slots id v x one holding unspent same_fixed adds s k deep at fits =
      let mine = k.each id v at in
      let held = mine.holds holding in
      let w : View E F = leaving by v (history x) in
      let same : fixed x ≡ given = (let e : Some (fixed x) ≡ Some given = sym same_fixed ∙ mine.fixed unspent in cc) in
      let later : Extends k.log (history x) = subst (λ l. Extends l (history x)) held.2 adds in (
        w,
        gives,
        tt,
        record {
          log = history x;
          word = 0;
          holder = k.holder;
          scale = k.scale;
          words = ap (λ ws. set ws 0 0) k.words;
          home = λ _. (x, set_here s.homes 0 (some (Some x)) (omega arith), refl, same);
          away = λ taken. absurd (taken refl);
          each = knows_set (history x) 0 k.holder k.scale s.views id w
              (λ j u apart there. let old = k.each j u there in record { seen = extends-later u.seen k.log (history x) old.seen later; older = old.older; rises = old.rises; holds = λ taken. absurd (apart ((old.holds taken).1 ∙ sym held.1)); spent = old.spent; fixed = old.fixed; scaled = old.scaled })
              (left_each k.log k.word k.holder k.scale id v x mine holding unspent adds);
          counted = λ p.
              let f : View E F → ℕ = λ u. times p u.mine in
              let moved = sum_set f s.views id v w at in
              let added = times-append p v.mine (new_places by v.entered (history x)) in
              let whole = ap (times p) (places-extended by v.entered (history x) adds) ∙ times-append p (places by v.entered) (new_places by v.entered (history x)) in
              let before : times p (places by v.entered) ≡ times p (places by k.log) = ap (λ l. times p (places by l)) held.2 in
              let counts = k.counted p in
              omega arith;
          shared = sum_same (λ (u : View E F). parts_at k.scale u.share) s.views id v w at refl ∙ k.shared;
        },
        λ y same. subst (λ (z : S). (◌≡◌ {A = Sat S E F} (w, []) (leaving by v (history z), [])) × AreRising 0 (length (history z)) (leaving by v (history z)).mine) (same_hand x y same)
            (refl, (left_each k.log k.word k.holder k.scale id v x mine holding unspent adds).rises),
      )

  -- the same of a seat whose slot was just written
  pub lets_go_written : (slots id : ℕ) (me : Sat S E F) (v : View E F) (hand : List (ℕ × Option S)) (x : S) → me ≡ (v, (0, Some x) ∷ rest hand) → hand ≡ (0, None) ∷ []
      → slots ≡ 1 → v.holding ≡ true → 0 < v.share.parts → v.fixed ≡ Some (fixed x) → Extends v.entered (history x)
      → Allows Rule slots id me 0 (λ _. 0) (λ _. LetsGo history by (step slots 0 0 0 none) me 0)
  lets_go_written slots id me v hand x wrote one_slot one holding unspent same_fixed adds =
      let now : ◌≡◌ {A = Sat S E F} me (v, (0, Some x) ∷ []) = wrote ∙ ap (λ (l : List (ℕ × Option S)). (v, (0, Some x) ∷ rest l)) one_slot in
      subst (λ (m : Sat S E F). Allows Rule slots id m 0 (λ _. 0) (λ _. LetsGo history by (step slots 0 0 0 none) m 0)) (sym now) (lets_go slots id v x one holding unspent same_fixed adds)

  -- split

  pub splits : (id : ℕ) (v : View E F) → v.holding ≡ false → 0 < v.share.parts → Splits Rule id v (halved v) (beside v)
  splits id v idle unspent s k at =
      let mine = k.each id v at in
      let cut : List (View E F) = set s.views id (halved v) in
      let finer_each : Knows given k.log k.word k.holder (k.scale + 1) id (halved v) =
      record { seen = mine.seen; older = mine.older; rises = mine.rises; holds = mine.holds; spent = mine.spent; fixed = mine.fixed; scaled = omega (arith, mine.scaled) } in
      record {
        log = k.log;
        word = k.word;
        holder = k.holder;
        scale = k.scale + 1;
        words = k.words;
        home = k.home;
        away = λ taken.
            let out = k.away taken in
            let apart : k.holder ≢ id = (λ e. off (sym idle ∙ ap (λ (u : View E F). u.holding) (some-injective v out.1.0 (sym at ∙ ap (get_elem? s.views) (sym e) ∙ out.1.1)) ∙ out.1.2)) in
            (out.0, (out.1.0, at_longer cut (beside v ∷ []) k.holder out.1.0 (set_else s.views id k.holder (halved v) apart ∙ out.1.1), out.1.2));
        each = λ j u there. ⊎_elim
            (λ (old : get_elem? cut j ≡ some u). knows_set k.log k.word k.holder (k.scale + 1) s.views id (halved v)
            (λ i y _ at_y. let kn = k.each i y at_y in record { seen = kn.seen; older = kn.older; rises = kn.rises; holds = kn.holds; spent = kn.spent; fixed = kn.fixed; scaled = omega (arith, kn.scaled) })
            finer_each j u old)
            (λ (new : beside v ≡ u). subst (Knows given k.log k.word k.holder (k.scale + 1) j) new
            record { seen = mine.seen; older = (v.seen, refl); rises = tt; holds = λ taken. absurd (off taken); spent = λ none. (refl, refl); fixed = mine.fixed; scaled = omega (arith, mine.scaled) })
            (at_snoc cut (beside v) u j there);
        counted = λ p.
            let f : View E F → ℕ = λ u. times p u.mine in
            let same = sum_same f s.views id v (halved v) at refl in
            let counts = k.counted p in
            sum_by_push f cut (beside v) ∙ omega arith;
        shared =
            let f : View E F → ℕ = λ u. parts_at k.scale u.share in
            let g : View E F → ℕ = λ u. parts_at (k.scale + 1) u.share in
            let twice = sum_double f g s.views (λ i u there. finer k.scale u.share (k.each i u there).scaled) in
            let moved = sum_set g s.views id v (halved v) at in
            let own = finer k.scale v.share mine.scaled in
            let left = parts_at-half k.scale v.share in
            let all = k.shared in
            let double : 2 ^ (k.scale + 1) ≡ 2 * 2 ^ k.scale = ap (λ n. 2 ^ n) (omega arith) ∙ pow-succ' 2 k.scale in
            sum_by_push g cut (beside v) ∙ omega arith;
      }

  -- of two views no place stands in both
  pub apart : (s : State (Option S) (View E F)) (k : Rule s) (id other : ℕ) (v w : View E F) → get_elem? s.views id ≡ some v → get_elem? s.views other ≡ some w → other ≢ id
      → (p : ℕ) → times p v.mine + times p w.mine ≤ 1
  apart s k id other v w at here ne p =
      let f : View E F → ℕ = λ u. times p u.mine in
      let without = sum_set f s.views id v spent_view at in
      let rest = sum_at f (set s.views id spent_view) other w (set_else s.views id other spent_view ne ∙ here) in
      let counts = k.counted p in
      let once = times-rising p 0 (length k.log) (places by k.log) (rising-places by k.log) in
      omega arith

  joined_knows : (s : State (Option S) (View E F)) (k : Rule s) (id : ℕ) (v : View E F) (other : ℕ) (w : View E F) → get_elem? s.views id ≡ some v → get_elem? s.views other ≡ some w → other ≢ id
      → v.holding ≡ false → 0 < v.share.parts → Knows given k.log k.word k.holder k.scale id (joined v w)
  joined_knows s k id v other w at here ne idle unspent =
      let mine = k.each id v at in
      let theirs = k.each other w here in
      let upto = length-longer v.seen w.seen in
      let high : ℕ = length (longer v.seen w.seen) in
      record {
        seen = longer-extends v.seen w.seen k.log mine.seen theirs.seen;
        older = shorter-longer v.seen w.seen k.log mine.seen theirs.seen;
        rises = rising-merged 0 high v.mine w.mine
            (rising-wider 0 0 (length v.seen) high v.mine (omega arith) (omega arith) mine.rises)
            (rising-wider 0 0 (length w.seen) high w.mine (omega arith) (omega arith) theirs.rises)
            (apart s k id other v w at here ne);
        holds = λ taken. absurd (off (sym idle ∙ taken));
        spent = λ none. absurd (omega (arith, parts_at-none (max v.share.halvings w.share.halvings) v.share (omega (arith, none))));
        fixed = λ _. mine.fixed unspent;
        scaled = omega (arith, mine.scaled, theirs.scaled);
      }

  -- join

  pub joins : (id : ℕ) (v : View E F) (other : ℕ) (w : View E F) → v.holding ≡ false → w.holding ≡ false → 0 < v.share.parts
      → Joins Rule id v other w (joined v w) spent_view
  joins id v other w idle other_idle unspent s k at ne there =
      let one : List (View E F) = set s.views id (joined v w) in
      let here : get_elem? s.views other ≡ some w = sym (set_else s.views id other (joined v w) ne) ∙ there in
      let mine = k.each id v at in
      let theirs = k.each other w here in
      record {
        log = k.log;
        word = k.word;
        holder = k.holder;
        scale = k.scale;
        words = k.words;
        home = k.home;
        away = λ taken.
            let out = k.away taken in
            let apart : k.holder ≢ id = (λ e. off (sym idle ∙ ap (λ (u : View E F). u.holding) (some-injective v out.1.0 (sym at ∙ ap (get_elem? s.views) (sym e) ∙ out.1.1)) ∙ out.1.2)) in
            let apart' : k.holder ≢ other = (λ e. off (sym other_idle ∙ ap (λ (u : View E F). u.holding) (some-injective w out.1.0 (sym here ∙ ap (get_elem? s.views) (sym e) ∙ out.1.1)) ∙ out.1.2)) in
            (out.0, (out.1.0, set_else one other k.holder spent_view apart' ∙ set_else s.views id k.holder (joined v w) apart ∙ out.1.1, out.1.2));
        each = knows_set k.log k.word k.holder k.scale one other spent_view
            (λ j u _ at_u. knows_set k.log k.word k.holder k.scale s.views id (joined v w) (λ i y _ at_y. k.each i y at_y) (joined_knows s k id v other w at here ne idle unspent) j u at_u)
            record { seen = (k.log, refl); older = ([], refl); rises = tt; holds = λ taken. absurd (off taken); spent = λ none. (refl, refl); fixed = λ some_parts. absurd (omega (arith, some_parts)); scaled = omega arith };
        counted = λ p.
            let f : View E F → ℕ = λ u. times p u.mine in
            let first = sum_set f s.views id v (joined v w) at in
            let second = sum_set f one other w spent_view there in
            let both = times-merged p v.mine w.mine in
            let counts = k.counted p in
            omega arith;
        shared =
            let f : View E F → ℕ = λ u. parts_at k.scale u.share in
            let first = sum_set f s.views id v (joined v w) at in
            let second = sum_set f one other w spent_view there in
            let both = parts_at-both k.scale v.share w.share mine.scaled theirs.scaled in
            let all = k.shared in
            omega arith;
      }

  -- the table at the start

  pub starts : (x : S) → fixed x ≡ given → callers by (history x) ≡ [] → Rule (opening (0 ∷ []) (Some x ∷ []) (first_view given))
  starts x same empty = record {
    log = history x;
    word = 0;
    holder = 0;
    scale = 0;
    words = refl;
    home = λ _. (x, refl, refl, same);
    away = λ taken. absurd (taken refl);
    each = first_knows;
    counted = λ p. ap (times p) (sym (places_from-notes by 1 (history x) empty));
    shared = refl;
  }
    where
      first_knows : (seat : ℕ) (v : View E F) → get_elem? (first_view given ∷ []) seat ≡ some v → Knows given (history x) 0 0 0 seat v
      first_knows zero v at = subst (Knows given (history x) 0 0 0 0) (some-injective (first_view given) v at)
          record { seen = (history x, refl); older = ([], refl); rises = tt; holds = λ taken. absurd (off taken); spent = λ _. (refl, refl); fixed = λ _. refl; scaled = omega arith }
      first_knows (suc seat) v at = absurd (some-ne-none v (sym at))

  -- the table at the end

  -- a view beside one with the whole share has no part
  lone : (s : State (Option S) (View E F)) (k : Rule s) (id : ℕ) (v : View E F) → get_elem? s.views id ≡ some v → IsWhole v.share
      → (j : ℕ) (u : View E F) → j ≢ id → get_elem? s.views j ≡ some u → u.share.parts ≡ 0
  lone s k id v at whole j u apart there =
      let f : View E F → ℕ = λ y. parts_at k.scale y.share in
      let without = sum_set f s.views id v spent_view at in
      let one = sum_at f (set s.views id spent_view) j u (set_else s.views id j spent_view apart ∙ there) in
      let own = parts_at-whole k.scale v.share (k.each id v at).scaled whole in
      let all = k.shared in
      parts_at-none k.scale u.share (omega arith)

  -- then the state is home, and each called place of its history is the view's
  pub closes : (id : ℕ) (v : View E F) (ws : List ℕ) (xs : List (Option S)) → IsWhole v.share → v.holding ≡ false → 0 < v.share.parts → Final (Seen Rule id v) ws xs
      → (x : S) × (get_elem? xs 0 ≡ some (Some x)) × Extends v.seen (history x) × (v.fixed ≡ Some (fixed x)) × (v.mine ≡ places by (history x))
  closes id v ws xs whole idle unspent (s, (k, at), words, deep, values) =
      let mine = k.each id v at in
      let free : k.word ≡ 0 = dite (ℕ_discrete k.word 0) (λ e. e) (λ taken. absurd (nobody taken)) in
      let home = k.home free in
      let x : S = home.0 in
      let all : v.mine ≡ places by k.log = rising-same 0 (length v.seen) (length k.log) v.mine (places by k.log) mine.rises (rising-places by k.log) (λ p. own p ∙ k.counted p) in
      (x, values 0 (Some x) home.1, subst (Extends v.seen) (sym home.2) mine.seen, mine.fixed unspent ∙ ap (λ (f : F). Some f) (sym home.3), all ∙ ap (places by) (sym home.2))
    where
      nobody : k.word ≢ 0 → ⊥
      nobody taken =
          let out = k.away taken in
          dite (ℕ_discrete k.holder id)
          (λ e. off (sym idle ∙ ap (λ (u : View E F). u.holding) (some-injective v out.1.0 (sym at ∙ ap (get_elem? s.views) (sym e) ∙ out.1.1)) ∙ out.1.2))
          (λ apart. off (sym ((k.each k.holder out.1.0 out.1.1).spent (lone s k id v at whole k.holder out.1.0 apart out.1.1)).1 ∙ out.1.2))

      own : (p : ℕ) → times p v.mine ≡ sum_by (λ (u : View E F). times p u.mine) s.views
      own p =
          let f : View E F → ℕ = λ u. times p u.mine in
          let without = sum_set f s.views id v spent_view at in
          let rest : sum_by f (set s.views id spent_view) ≡ 0 = sum_none f (set s.views id spent_view) (λ j u there. ⊎_elim
          (λ (t : (j ≡ id) × (spent_view ≡ u)). ap f (sym t.1))
          (λ (t : (j ≢ id) × (get_elem? s.views j ≡ some u)). ap (times p) ((k.each j u t.1).spent (lone s k id v at whole j u t.0 t.1)).0)
          (at_set s.views id j spent_view u there)) in
          omega arith

  -- the same of what a badge has, and of what was found in the slot
  pub ended : (views : List (View E F)) (id : ℕ) (v : View E F) (ws : List ℕ) (xs : List (Option S)) (found : Option S) → views ≡ v ∷ []
      → IsWhole (view_in views).share → (view_in views).holding ≡ false → 0 < (view_in views).share.parts → Final (Seen Rule id v) ws xs → get_elem? xs 0 ≡ some found
      → (x : S) × (found ≡ Some x) × Extends (view_in views).seen (history x) × ((view_in views).fixed ≡ Some (fixed x)) × ((view_in views).mine ≡ places by (history x))
  ended views id v ws xs found one whole idle unspent end at =
      let same : view_in views ≡ v = ap view_in one in
      let done = closes id v ws xs (subst (λ (u : View E F). IsWhole u.share) same whole) (ap (λ (u : View E F). u.holding) (sym same) ∙ idle) (subst (λ (u : View E F). 0 < u.share.parts) same unspent) end in
      let x : S = done.0 in
      (x, some-injective found (Some x) (sym at ∙ done.1), subst (λ (u : View E F). Extends u.seen (history x)) (sym same) done.2, ap (λ (u : View E F). u.fixed) same ∙ done.3, ap (λ (u : View E F). u.mine) same ∙ done.4)
