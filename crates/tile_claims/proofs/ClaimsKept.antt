-- Each step on a table of claims keeps its rule.
use Rattle.std.proofs.Common.{◌≡◌, ◌≢◌, ◌==◌, ◌⊎◌, ℕ, zero, suc, ◌+◌, ◌%◌, ◌^◌, ◌<◌, ◌≤◌, List, [], ◌∷◌, ◌++◌, Option, Some, None, Bool, true, false, true≢false, min, max, length, length-set, length-append, set, get_or, refl, sym, ap, ◌∙◌, subst, inl, inr, ⊎_elim, arith, ne_eqb, lt_of_not-le}
use mathlib.Core.Option.{some, none, some-injective, some-ne-none}
use mathlib.Core.Logic.{dite}
use native.Mathlib.Decide.{dec_le, ℕ_discrete}
use lib.ListN.{get_elem?}
use Rattle.std.specs.List.{sum_by}
use Rattle.std.specs.Option.{option_to_list}
use Rattle.std.proofs.lemmas.List.Sums.{sum_by_push, sum_by-cons, sum_by-le-sum_by, count_by-le-length}
use Rattle.atomic_table.specs.Table.{step, Act, keeps, takes, gives as gives_back, Valid, stepped, Allows, Splits, opening, carried_after}
use Rattle.atomic_table.proofs.Lists.{at_set, at_map, set_here, set_else}
use Rattle.tile_claims.specs.declared.key.Key.{Key}
use Rattle.tile_claims.specs.declared.view.View.{View}
use Rattle.tile_claims.specs.Parts.{tiles_of, IsSized, IsFilled}
use Rattle.tile_claims.specs.Pixels.{Pixels}
use Rattle.dev_types.specs.Counting.{times}
use Rattle.tile_claims.specs.Views.{open_tiles, claimed, one_if, taken, new_view, claiming, too_late, giving, looking_at_claims, looking_at_gives, stopping, splitting, beside, collecting, IsAlone}
use Rattle.tile_claims.specs.Rule.{ClaimTable, Knows, Kept, IsHome, IsShown, times_open, times_given, Sat, TakesNext, Counts, LooksAtClaims, LooksAtGives, Stops, Collects}
use Rattle.dev_types.proofs.SumLaws.{sum_set, sum_same, sum_at, sum_only, sum_agree, times-same, times-other, times-cons, times-more}
use Rattle.tile_claims.proofs.SumLaws.{upto, upto-same, upto-add, upto-ones, upto-length, upto-sum}

off : false ≡ true → ⊥
off e = true≢false (sym e)

-- a late view adds one at most
late_count : (views : List View) → sum_by (λ v. one_if v.late) views ≤ sum_by (λ v. 1) views
late_count views = sum_by-le-sum_by (λ v. one_if v.late) (λ v. 1) views (λ v. small v.late)
  where
    small : (b : Bool) → one_if b ≤ 1
    small true = omega arith
    small false = omega arith

module _ (key : Key) where
  abbrev n : ℕ
  n = tiles_of key

  abbrev Rule : ClaimTable → Type 0
  Rule = Kept key

  -- each other view knows as much, and the new one knows this
  knows_set : (c g : ℕ) (stop : Option ℕ) (gathered : List ℕ) (splits : ℕ) (views : List View) (id : ℕ) (w : View)
      → ((j : ℕ) (u : View) → j ≢ id → get_elem? views j ≡ some u → Knows key c g stop gathered splits j u)
      → Knows key c g stop gathered splits id w
      → (j : ℕ) (u : View) → get_elem? (set views id w) j ≡ some u → Knows key c g stop gathered splits j u
  knows_set c g stop gathered splits views id w others mine j u at = ⊎_elim
      (λ (x : (j ≡ id) × (w ≡ u)). subst (λ (y : ℕ × View). Knows key c g stop gathered splits y.0 y.1) (λ i. (sym x.0 i, x.1 i)) mine)
      (λ (x : (j ≢ id) × (get_elem? views j ≡ some u)). others j u x.0 x.1)
      (at_set views id j w u at)

  -- what a view knows where the counts have risen
  knows_more : (c g c' g' : ℕ) (stop : Option ℕ) (gathered : List ℕ) (splits seat : ℕ) (v : View) → c ≤ c' → g ≤ g'
      → Knows key c g stop gathered splits seat v → Knows key c' g' stop gathered splits seat v
  knows_more c g c' g' stop gathered splits seat v more more' k =
      record { keyed = k.keyed; first = k.first; leads = k.leads; later = k.later; claims_seen = omega (arith, k.claims_seen); gives_seen = omega (arith, k.gives_seen) }

  -- more claims than tiles claim nothing more
  taken_past : (stop : Option ℕ) (c c' : ℕ) → n ≤ c → c ≤ c' → taken stop c' n ≡ taken stop c n
  taken_past None c c' past more = omega arith
  taken_past (Some m) c c' past more = refl

  -- no more tiles are claimed than there are, nor than were claimed
  taken_le : (s : ClaimTable) (k : Rule s) → taken k.stop k.claims n ≤ n
  taken_le s k = by_stop k.stop k.stopped
    where
      by_stop : (stop : Option ℕ) → ((m : ℕ) → stop ≡ Some m → (m ≤ n) × (n ≤ k.claims)) → taken stop k.claims n ≤ n
      by_stop None stopped = omega arith
      by_stop (Some m) stopped = (stopped m refl).0

  -- as many tiles are open or given as were claimed
  in_all : (s : ClaimTable) (k : Rule s) → sum_by (λ v. length (open_tiles v)) s.views + k.gives ≡ taken k.stop k.claims n
  in_all s k =
      let c : ℕ = taken k.stop k.claims n in
      let opened = sum_agree (λ (v : View). upto (λ t. times t (open_tiles v)) c) (λ (v : View). length (open_tiles v)) s.views (λ i v at.
      upto-length (open_tiles v) c (λ t above. omega (arith, k.no_more t above, sum_at (λ (u : View). times t (open_tiles u)) s.views i v at))) in
      let given = sum_agree (λ (v : View). upto (λ t. times t v.given) c) (λ (v : View). length v.given) s.views (λ i v at.
      upto-length v.given c (λ t above. omega (arith, k.no_more t above, sum_at (λ (u : View). times t u.given) s.views i v at))) in
      let all = upto-same (λ t. times_open t s.views + times_given t s.views) (λ t. 1) c k.once in
      omega (
        arith,
        opened,
        given,
        k.given,
        upto-sum (λ t (v : View). times t (open_tiles v)) s.views c,
        upto-sum (λ t (v : View). times t v.given) s.views c,
        upto-add (λ t. times_open t s.views) (λ t. times_given t s.views) c,
        all,
        upto-ones c,
      )

  -- laws of the rule

  pub once_at_most : (s : ClaimTable) → Rule s → (tile : ℕ) → times_open tile s.views + times_given tile s.views ≤ 1
  once_at_most s k tile = dite (dec_le (taken k.stop k.claims n) tile)
      (λ le. omega (arith, k.no_more tile le))
      (λ nle. omega (arith, k.once tile (lt_of_not-le nle)))

  none_open : (s : ClaimTable) (k : Rule s) → taken k.stop k.claims n ≤ k.gives → (seat : ℕ) (v : View) → get_elem? s.views seat ≡ some v → v.opened ≡ None
  none_open s k all seat v at = by_tile v.opened (omega (arith, in_all s k, sum_at (λ (u : View). length (open_tiles u)) s.views seat v at))
    where
      by_tile : (tile : Option ℕ) → length (option_to_list tile) ≤ 0 → tile ≡ None
      by_tile None le = refl
      by_tile (Some t) le = absurd (omega arith)

  -- where the first seat has seen as many tiles given as were claimed, none is open
  pub seen_all : (s : ClaimTable) → Rule s → (v : View) → get_elem? s.views 0 ≡ some v → v.gives.last ≡ tiles_of v.key
      → (seat : ℕ) (u : View) → get_elem? s.views seat ≡ some u → u.opened ≡ None
  seen_all s k v at all =
      let mine = k.each 0 v at in
      let keys : tiles_of v.key ≡ n = ap tiles_of mine.keyed in
      none_open s k (omega (arith, mine.gives_seen, taken_le s k, all, keys))

  pub seen_stopped : (s : ClaimTable) → Rule s → (v : View) → get_elem? s.views 0 ≡ some v → v.stop ≡ Some v.gives.last
      → (seat : ℕ) (u : View) → get_elem? s.views seat ≡ some u → u.opened ≡ None
  seen_stopped s k v at all =
      let mine = k.each 0 v at in
      let stop : k.stop ≡ Some v.gives.last = sym (mine.leads mine.first).0 ∙ all in
      let same : taken k.stop k.claims n ≡ v.gives.last = ap (λ t. taken t k.claims n) stop in
      none_open s k (omega (arith, mine.gives_seen, same))

  -- claim

  abbrev succ : ℕ → ℕ
  succ c = (c + 1) % 2 ^ 64

  -- the count of claims does not wrap
  no_wrap : (s : ClaimTable) (k : Rule s) → n ≤ 65536 → succ k.claims ≡ k.claims + 1
  no_wrap s k small =
      let late = late_count s.views in
      let all = ones s.views in
      let seats = k.seats in
      let few = k.few in
      let bound = k.late in
      omega arith
    where
      ones : (views : List View) → sum_by (λ v. 1) views ≡ length views
      ones [] = refl
      ones (v ∷ vs) = let rest = ones vs in omega (arith, sum_by-cons (λ (u : View). 1) v vs)

  -- where tiles are left, the claims were not stopped
  going : (s : ClaimTable) (k : Rule s) → k.claims < n → taken k.stop k.claims n ≡ k.claims
  going s k left = by_stop k.stop k.stopped
    where
      by_stop : (stop : Option ℕ) → ((m : ℕ) → stop ≡ Some m → (m ≤ n) × (n ≤ k.claims)) → taken stop k.claims n ≡ k.claims
      by_stop None stopped = omega arith
      by_stop (Some m) stopped = absurd (omega (arith, (stopped m refl).1))

  going_on : (s : ClaimTable) (k : Rule s) → k.claims < n → taken k.stop (k.claims + 1) n ≡ k.claims + 1
  going_on s k left = by_stop k.stop k.stopped
    where
      by_stop : (stop : Option ℕ) → ((m : ℕ) → stop ≡ Some m → (m ≤ n) × (n ≤ k.claims)) → taken stop (k.claims + 1) n ≡ k.claims + 1
      by_stop None stopped = omega arith
      by_stop (Some m) stopped = absurd (omega (arith, (stopped m refl).1))

  -- a seat that is alone has claimed all that is claimed
  alone_claimed : (s : ClaimTable) (k : Rule s) (id : ℕ) (v : View) → get_elem? s.views id ≡ some v → IsAlone v → claimed v ≡ taken v.stop k.claims n
  alone_claimed s k id v at lone =
      let leads = (k.each id v at).leads lone.0 in
      let seats = k.seats in
      let one : length s.views ≡ 1 = omega (arith, lone.1, leads.2) in
      let opened = sum_only (λ (u : View). length (open_tiles u)) s.views id v one at in
      let given = sum_only (λ (u : View). length u.given) s.views id v one at in
      let stop : taken v.stop k.claims n ≡ taken k.stop k.claims n = ap (λ t. taken t k.claims n) leads.0 in
      omega (arith, in_all s k, k.given)

  alone_going : (s : ClaimTable) (k : Rule s) (id : ℕ) (v : View) → get_elem? s.views id ≡ some v → IsAlone v → v.stop ≡ None → min k.claims (tiles_of v.key) ≡ claimed v
  alone_going s k id v at lone goes =
      let all = alone_claimed s k id v at lone in
      let stop : taken v.stop k.claims n ≡ min k.claims n = ap (λ t. taken t k.claims n) goes in
      let keys : tiles_of v.key ≡ n = ap tiles_of (k.each id v at).keyed in
      omega arith

  -- the rule, where a seat's view changes but for its tiles, and the count of claims rises
  rekept : (s : ClaimTable) (k : Rule s) (id : ℕ) (v w : View) → get_elem? s.views id ≡ some v → (c g : ℕ) (stop : Option ℕ) (words : List ℕ)
      → words ≡ c ∷ g ∷ [] → g ≡ k.gives → open_tiles w ≡ open_tiles v → w.given ≡ v.given
      → taken stop c n ≡ taken k.stop k.claims n
      → c ≤ n + sum_by (λ u. one_if u.late) (set s.views id w)
      → ((m : ℕ) → stop ≡ Some m → (m ≤ n) × (n ≤ c))
      → ((j : ℕ) (u : View) → j ≢ id → get_elem? s.views j ≡ some u → Knows key c g stop k.gathered k.splits j u)
      → Knows key c g stop k.gathered k.splits id w
      → Rule record { words = words; homes = s.homes; views = set s.views id w }
  rekept s k id v w at c g stop words words_are same_gives opens gives_same same late stopped others mine =
      let opened : (t : ℕ) → times_open t (set s.views id w) ≡ times_open t s.views = (λ t. sum_same (λ (u : View). times t (open_tiles u)) s.views id v w at (ap (times t) opens)) in
      let given : (t : ℕ) → times_given t (set s.views id w) ≡ times_given t s.views = (λ t. sum_same (λ (u : View). times t u.given) s.views id v w at (ap (times t) gives_same)) in
      record {
        claims = c;
        gives = g;
        stop = stop;
        gathered = k.gathered;
        splits = k.splits;
        words = words_are;
        each = knows_set c g stop k.gathered k.splits s.views id w others mine;
        once = λ t below. omega (arith, k.once t (omega arith), opened t, given t);
        no_more = λ t above. omega (arith, k.no_more t (omega arith), opened t, given t);
        given = sum_same (λ (u : View). length u.given) s.views id v w at (ap length gives_same) ∙ k.given ∙ sym same_gives;
        homes = λ t below none_open there. let home = k.homes t below (omega (arith, none_open, opened t)) there in
            (home.0, home.1, home.2, λ some_given. home.3 (omega (arith, some_given, given t)));
        collected = λ t there. omega (arith, k.collected t there, given t);
        late = late;
        seats = length-set s.views id w ∙ k.seats;
        few = k.few;
        stopped = stopped;
      }

  none_if : (m : ℕ) → (0 < m → ⊥) → m ≡ 0
  none_if zero nothing = refl
  none_if (suc m) nothing = absurd (nothing (omega arith))

  -- a tile that nobody has claimed is in its slot
  unclaimed : (s : ClaimTable) (k : Rule s) (t : ℕ) → t < n → taken k.stop k.claims n ≤ t → IsHome key t s
  unclaimed s k t below above =
      let nobody = k.no_more t above in
      k.homes t below (omega arith) (none_if (times t k.gathered) (λ some_there. omega (arith, k.collected t some_there)))

  -- the rule after a tile was claimed
  claim_kept : (s : ClaimTable) (k : Rule s) (id : ℕ) (v : View) → get_elem? s.views id ≡ some v → v.opened ≡ None → k.claims < n
      → (x c : ℕ) → x ≡ k.claims → c ≡ k.claims + 1 → (words : List ℕ) → words ≡ c ∷ k.gives ∷ []
      → Rule record { words = words; homes = set s.homes x none; views = set s.views id (claiming v x) }
  claim_kept s k id v at idle left x c x_is c_is words words_are =
      let w : View = claiming v x in
      let views : List View = set s.views id w in
      let now = going s k left in
      let after : taken k.stop c n ≡ k.claims + 1 = ap (λ m. taken k.stop m n) c_is ∙ going_on s k left in
      let old = k.each id v at in
      let opened : (t : ℕ) → times_open t views ≡ times_open t s.views + times t (x ∷ []) =
      (λ t. let nothing : times t (open_tiles v) ≡ 0 = ap (λ o. times t (option_to_list o)) idle in
      omega (arith, sum_set (λ (u : View). times t (open_tiles u)) s.views id v w at)) in
      let given : (t : ℕ) → times_given t views ≡ times_given t s.views = (λ t. sum_same (λ (u : View). times t u.given) s.views id v w at refl) in
      record {
        claims = c;
        gives = k.gives;
        stop = k.stop;
        gathered = k.gathered;
        splits = k.splits;
        words = words_are;
        each = knows_set c k.gives k.stop k.gathered k.splits s.views id w
            (λ j u apart there. knows_more k.claims k.gives c k.gives k.stop k.gathered k.splits j u (omega arith) (omega arith) (k.each j u there))
            record { keyed = old.keyed; first = old.first; leads = old.leads; later = old.later; claims_seen = omega (arith, old.claims_seen); gives_seen = old.gives_seen };
        once = λ t below. ⊎_elim
            (λ (e : (x ≡ t) × (times t (x ∷ []) ≡ 1 + times t [])). omega (arith, e.0, e.1, k.no_more t (omega (arith, e.0)), opened t, given t))
            (λ (e : (x ≢ t) × (times t (x ∷ []) ≡ times t [])). let apart : x ≢ t = e.0 in let before : t < k.claims = omega arith in omega (arith, e.1, k.once t (omega arith), opened t, given t))
            (times-cons t x []);
        no_more = λ t above. let apart : x ≢ t = (λ e. omega (arith, e)) in omega (arith, times-other t x [] apart, k.no_more t (omega arith), opened t, given t);
        given = sum_same (λ (u : View). length u.given) s.views id v w at refl ∙ k.given;
        homes = λ t below none_open there.
            let apart : t ≢ x = (λ e. let here = times-same x [] in let same : times_open x views ≡ times_open t views = ap (λ r. times_open r views) (sym e) in omega (arith, opened x)) in
            let home = k.homes t below (omega (arith, none_open, opened t)) there in
            (home.0, set_else s.homes x t none apart ∙ home.1, home.2, λ some_given. home.3 (omega (arith, some_given, given t)));
        collected = λ t there. omega (arith, k.collected t there, given t);
        late = omega arith;
        seats = length-set s.views id w ∙ k.seats;
        few = k.few;
        stopped = λ m is. ((k.stopped m is).0, omega (arith, (k.stopped m is).1));
      }

  -- what a seat says of a stop is so
  says_stop : (s : ClaimTable) (k : Rule s) (id : ℕ) (v : View) → get_elem? s.views id ≡ some v → (m : ℕ) → v.stop ≡ Some m → k.stop ≡ Some m
  says_stop s k id v at m is = by_first v.first refl
    where
      by_first : (b : Bool) → v.first ≡ b → k.stop ≡ Some m
      by_first true leads = sym ((k.each id v at).leads leads).0 ∙ is
      by_first false later = (let stop = ((k.each id v at).later later).0 in cc)

  -- where tiles are left, no seat has stopped the claims
  says_going : (s : ClaimTable) (k : Rule s) (id : ℕ) (v : View) → get_elem? s.views id ≡ some v → k.claims < n → v.stop ≡ None
  says_going s k id v at left = by_stop v.stop refl
    where
      by_stop : (stop : Option ℕ) → v.stop ≡ stop → stop ≡ None
      by_stop None is = refl
      by_stop (Some m) is = absurd (omega (arith, (k.stopped m (says_stop s k id v at m is)).1))

  pub takes_next : (slots id : ℕ) (me : Sat) → n ≤ 65536 → me.0.opened ≡ None → me.0.late ≡ false
      → Allows Rule slots id me 0 succ (TakesNext (step slots 0 1 0 none) me)
  takes_next slots id me small idle in_time s k deep at fits = dite (dec_le n x) too_late_case taken_case
    where
      v : View
      v = me.0

      x : ℕ
      x = get_or s.words 0 0

      x_is : x ≡ k.claims
      x_is = ap (λ ws. get_or ws 0 0) k.words

      up : succ x ≡ k.claims + 1
      up = ap succ x_is ∙ no_wrap s k small

      words_are : set s.words 0 (succ x) ≡ succ x ∷ k.gives ∷ []
      words_are = ap (λ ws. set ws 0 (succ x)) k.words

      keys : tiles_of v.key ≡ n
      keys = ap tiles_of (k.each id v at).keyed

      alone : IsAlone v → v.stop ≡ None → min x (tiles_of v.key) ≡ claimed v
      alone lone goes = ap (λ c. min c (tiles_of v.key)) x_is ∙ alone_going s k id v at lone goes

      too_late_case : n ≤ x → (w : View) × (a : Act (Option Pixels)) × Valid s.homes me.1 a × Rule (stepped s 0 (succ x) id me.1 w a) × TakesNext (step slots 0 1 0 none) me x (w, carried_after me.1 a)
      too_late_case le =
          let w : View = too_late v in
          let old = k.each id v at in
          let none_yet : one_if v.late ≡ 0 = ap one_if in_time in
          let more = sum_set (λ (u : View). one_if u.late) s.views id v w at in
          let bound = k.late in (
            w,
            keeps,
            tt,
            rekept s k id v w at (succ x) k.gives k.stop (set s.words 0 (succ x)) words_are refl refl refl
                (taken_past k.stop k.claims (succ x) (omega (arith, x_is)) (omega (arith, up)))
                (omega (arith, up, x_is, more))
                (λ m is. ((k.stopped m is).0, omega (arith, up, (k.stopped m is).1)))
                (λ j u apart there. knows_more k.claims k.gives (succ x) k.gives k.stop k.gathered k.splits j u (omega (arith, up)) (omega arith) (k.each j u there))
                record { keyed = old.keyed; first = old.first; leads = old.leads; later = old.later; claims_seen = omega (arith, up, old.claims_seen); gives_seen = old.gives_seen },
            record { taken = λ below. absurd (omega (arith, keys, below)); going = λ below. absurd (omega (arith, keys, below)); late = λ _. refl; alone = alone },
          )

      taken_case : (n ≤ x → ⊥) → (w : View) × (a : Act (Option Pixels)) × Valid s.homes me.1 a × Rule (stepped s 0 (succ x) id me.1 w a) × TakesNext (step slots 0 1 0 none) me x (w, carried_after me.1 a)
      taken_case nle =
          let below : x < n = lt_of_not-le nle in
          let home = unclaimed s k x below (omega (arith, x_is, going s k (omega (arith, x_is)))) in (
            claiming v x,
            takes x (Some home.0),
            home.1,
            claim_kept s k id v at idle (omega (arith, x_is)) x (succ x) x_is up (set s.words 0 (succ x)) words_are,
            record {
              taken = λ _. (home.0, refl, subst (λ q. IsSized q x home.0) (sym (k.each id v at).keyed) home.2);
              going = λ _. says_going s k id v at (omega (arith, x_is));
              late = λ past. absurd (omega (arith, keys, past));
              alone = alone;
            },
          )

  -- give

  -- the rule after the open tile was given, and its pixels put into their slot
  give_kept : (s : ClaimTable) (k : Rule s) (id : ℕ) (v : View) → get_elem? s.views id ≡ some v → (t : ℕ) (p : Pixels) → v.opened ≡ Some t → IsFilled key t p → length s.homes ≡ n
      → (g : ℕ) → g ≡ k.gives + 1 → (words : List ℕ) → words ≡ k.claims ∷ g ∷ []
      → Rule record { words = words; homes = set s.homes t (some (Some p)); views = set s.views id (giving v t) }
  give_kept s k id v at t p is filled long g g_is words words_are =
      let w : View = giving v t in
      let views : List View = set s.views id w in
      let old = k.each id v at in
      let one : (u : ℕ) → times u (open_tiles v) ≡ times u (t ∷ []) = (λ u. ap (λ o. times u (option_to_list o)) is) in
      let opened : (u : ℕ) → times_open u views + times u (t ∷ []) ≡ times_open u s.views = (λ u. omega (arith, one u, sum_set (λ (y : View). times u (open_tiles y)) s.views id v w at)) in
      let given : (u : ℕ) → times_given u views ≡ times_given u s.views + times u (t ∷ []) = (λ u. omega (arith, times-more u t v.given, sum_set (λ (y : View). times u y.given) s.views id v w at)) in
      let claimed_one : t < taken k.stop k.claims n = lt_of_not-le (λ above. omega (arith, k.no_more t above, opened t, times-same t [])) in
      record {
        claims = k.claims;
        gives = g;
        stop = k.stop;
        gathered = k.gathered;
        splits = k.splits;
        words = words_are;
        each = knows_set k.claims g k.stop k.gathered k.splits s.views id w
            (λ j u apart there. knows_more k.claims k.gives k.claims g k.stop k.gathered k.splits j u (omega arith) (omega arith) (k.each j u there))
            record { keyed = old.keyed; first = old.first; leads = old.leads; later = old.later; claims_seen = old.claims_seen; gives_seen = omega (arith, old.gives_seen) };
        once = λ u below. omega (arith, k.once u below, opened u, given u);
        no_more = λ u above. omega (arith, k.no_more u above, opened u, given u);
        given = omega (arith, k.given, sum_set (λ (u : View). length u.given) s.views id v w at);
        homes = λ u below none_open there. ⊎_elim
            (λ (e : (t ≡ u) × (times u (t ∷ []) ≡ 1 + times u [])).
            subst (λ r. IsHome key r record { words = words; homes = set s.homes t (some (Some p)); views = views }) e.0
            (p, set_here s.homes t (some (Some p)) (omega (arith, long, taken_le s k)), filled.sized, λ _. filled))
            (λ (e : (t ≢ u) × (times u (t ∷ []) ≡ times u [])).
            let home = k.homes u below (omega (arith, none_open, opened u, e.1)) there in
            (home.0, set_else s.homes t u (some (Some p)) (λ same. e.0 (sym same)) ∙ home.1, home.2, λ some_given. home.3 (omega (arith, some_given, given u, e.1))))
            (times-cons u t []);
        collected = λ u there. omega (arith, k.collected u there, given u);
        late = omega (arith, sum_same (λ (u : View). one_if u.late) s.views id v w at refl, k.late);
        seats = length-set s.views id w ∙ k.seats;
        few = k.few;
        stopped = k.stopped;
      }

  pub counts : (slots id : ℕ) (me : Sat) (v : View) (t : ℕ) (p : Pixels) (others : List (ℕ × Option Pixels)) → me ≡ (v, (t, Some p) ∷ others)
      → n ≤ 65536 → slots ≡ n → v.opened ≡ Some t → IsFilled key t p
      → Allows Rule slots id me 1 succ (Counts (step slots 1 1 0 none) me)
  counts slots id me v t p others me_is small all is filled =
      subst (λ (m : Sat). Allows Rule slots id m 1 succ (Counts (step slots 1 1 0 none) m)) (sym me_is) goes
    where
      goes : Allows Rule slots id (v, (t, Some p) ∷ others) 1 succ (Counts (step slots 1 1 0 none) (v, (t, Some p) ∷ others))
      goes s k deep at fits =
          let x : ℕ = get_or s.words 1 0 in
          let x_is : x ≡ k.gives = ap (λ ws. get_or ws 1 0) k.words in
          let up : succ x ≡ k.gives + 1 = (let same : succ x ≡ succ k.gives = ap succ x_is in omega (arith, same, taken_le s k, in_all s k, small)) in (
            giving v t,
            gives_back,
            tt,
            give_kept s k id v at t p is filled (deep ∙ all) (succ x) up (set s.words 1 (succ x)) (ap (λ ws. set ws 1 (succ x)) k.words),
            λ u there. let both : Some t ≡ Some u = sym is ∙ there in let same : t ≡ u = cc in ap (λ r. (giving v r, others)) same,
          )

  -- looks

  pub looks_at_claims : (slots id : ℕ) (me : Sat) → Allows Rule slots id me 0 (λ c. c) (LooksAtClaims (step slots 0 0 0 none) me)
  looks_at_claims slots id me s k deep at fits =
      let v : View = me.0 in
      let x : ℕ = get_or s.words 0 0 in
      let x_is : x ≡ k.claims = ap (λ ws. get_or ws 0 0) k.words in
      let w : View = looking_at_claims v x in
      let old = k.each id v at in (
        w,
        keeps,
        tt,
        rekept s k id v w at k.claims k.gives k.stop (set s.words 0 x) (ap (λ y. set s.words 0 y) x_is ∙ ap (λ ws. set ws 0 k.claims) k.words) refl refl refl refl
            (omega (arith, sum_same (λ (u : View). one_if u.late) s.views id v w at refl, k.late))
            k.stopped
            (λ j u apart there. k.each j u there)
            record { keyed = old.keyed; first = old.first; leads = old.leads; later = old.later; claims_seen = omega arith; gives_seen = old.gives_seen },
        record {
          seen = refl;
          rises = omega (arith, old.claims_seen);
          alone = λ lone goes. ap (λ c. min c (tiles_of v.key)) x_is ∙ alone_going s k id v at lone goes;
        },
      )

  pub looks_at_gives : (slots id : ℕ) (me : Sat) → Allows Rule slots id me 1 (λ g. g) (LooksAtGives (step slots 1 0 0 none) me)
  looks_at_gives slots id me s k deep at fits =
      let v : View = me.0 in
      let x : ℕ = get_or s.words 1 0 in
      let x_is : x ≡ k.gives = ap (λ ws. get_or ws 1 0) k.words in
      let w : View = looking_at_gives v x in
      let old = k.each id v at in
      let keys : tiles_of v.key ≡ n = ap tiles_of old.keyed in (
        w,
        keeps,
        tt,
        rekept s k id v w at k.claims k.gives k.stop (set s.words 1 x) (ap (λ y. set s.words 1 y) x_is ∙ ap (λ ws. set ws 1 k.gives) k.words) refl refl refl refl
            (omega (arith, sum_same (λ (u : View). one_if u.late) s.views id v w at refl, k.late))
            k.stopped
            (λ j u apart there. k.each j u there)
            record { keyed = old.keyed; first = old.first; leads = old.leads; later = old.later; claims_seen = old.claims_seen; gives_seen = omega arith },
        record {
          seen = refl;
          rises = omega (arith, old.gives_seen);
          within = omega (arith, taken_le s k, in_all s k);
          stopped = λ m is. let same : taken k.stop k.claims n ≡ m = ap (λ t. taken t k.claims n) (says_stop s k id v at m is) in omega (arith, same, in_all s k);
          alone = λ lone.
              let leads = old.leads lone.0 in
              let one : length s.views ≡ 1 = omega (arith, lone.1, leads.2, k.seats) in
              omega (arith, sum_only (λ (u : View). length u.given) s.views id v one at, k.given);
        },
      )

  -- stop

  -- the first seat is seat 0
  leader : (id : ℕ) (v : View) → v.first ≡ (id == 0) → v.first ≡ true → id ≡ 0
  leader id v place leads = dite (ℕ_discrete id 0) (λ e. e) (λ apart. absurd (off (sym (ne_eqb id 0 apart) ∙ sym place ∙ leads)))

  -- beside the first seat, what it says does not matter
  knows_beside : (c g c' g' : ℕ) (stop stop' : Option ℕ) (gathered gathered' : List ℕ) (splits splits' j : ℕ) (u : View) → j ≢ 0 → c ≤ c' → g ≤ g'
      → Knows key c g stop gathered splits j u → Knows key c' g' stop' gathered' splits' j u
  knows_beside c g c' g' stop stop' gathered gathered' splits splits' j u apart more more' k = record {
    keyed = k.keyed;
    first = k.first;
    leads = λ is. absurd (off (sym (ne_eqb j 0 apart) ∙ sym k.first ∙ is));
    later = k.later;
    claims_seen = omega (arith, k.claims_seen);
    gives_seen = omega (arith, k.gives_seen);
  }

  pub stops : (slots id tiles : ℕ) (me : Sat) → tiles ≡ n → me.0.first ≡ true → me.0.stop ≡ None
      → Allows Rule slots id me 0 (λ c. max c tiles) (Stops (step slots 0 tiles 0 none) me)
  stops slots id tiles me all leads goes s k deep at fits =
      let v : View = me.0 in
      let x : ℕ = get_or s.words 0 0 in
      let x_is : x ≡ k.claims = ap (λ ws. get_or ws 0 0) k.words in
      let m : ℕ = min x (tiles_of v.key) in
      let w : View = stopping v m in
      let old = k.each id v at in
      let here : id ≡ 0 = leader id v old.first leads in
      let keys : tiles_of v.key ≡ n = ap tiles_of old.keyed in
      let stop : k.stop ≡ None = sym (old.leads leads).0 ∙ goes in
      let before : taken k.stop k.claims n ≡ min k.claims n = ap (λ t. taken t k.claims n) stop in
      let c : ℕ = max x tiles in (
        w,
        keeps,
        tt,
        rekept s k id v w at c k.gives (Some m) (set s.words 0 c) (ap (λ ws. set ws 0 c) k.words) refl refl refl (omega arith)
            (omega (arith, sum_same (λ (u : View). one_if u.late) s.views id v w at refl, k.late))
            (λ y is. let same : m ≡ y = cc in (omega arith, omega arith))
            (λ j u apart there. knows_beside k.claims k.gives c k.gives k.stop (Some m) k.gathered k.gathered k.splits k.splits j u (λ e. apart (e ∙ sym here)) (omega arith) (omega arith) (k.each j u there))
            record { keyed = old.keyed; first = old.first; leads = λ _. (refl, (old.leads leads).1, (old.leads leads).2); later = λ is. absurd (off (sym is ∙ leads)); claims_seen = omega (arith, old.claims_seen); gives_seen = old.gives_seen },
        record {
          seen = refl;
          rises = (omega (arith, old.claims_seen), omega (arith, old.gives_seen, in_all s k));
          alone = λ lone. ap (λ y. min y (tiles_of v.key)) x_is ∙ alone_going s k id v at lone goes;
        },
      )

  -- split

  at_end : {A : Type 0} (l : List A) (a b : A) (j : ℕ) → get_elem? (l ++ a ∷ []) j ≡ some b → (get_elem? l j ≡ some b) ⊎ ((j ≡ length l) × (a ≡ b))
  at_end [] a b zero e = inr (refl, some-injective a b e)
  at_end [] a b (suc j) e = absurd (some-ne-none b (sym e))
  at_end (x ∷ xs) a b zero e = inl e
  at_end (x ∷ xs) a b (suc j) e = ⊎_elim (λ old. inl old) (λ (new : (j ≡ length xs) × (a ≡ b)). inr (ap suc new.0, new.1)) (at_end xs a b j e)

  pub splits : (id : ℕ) (v : View) → v.first ≡ true → v.splits < 2 ^ 20 → Splits Rule id v (splitting v) (beside v)
  splits id v leads room s k at =
      let w : View = splitting v in
      let cut : List View = set s.views id w in
      let new : View = beside v in
      let old = k.each id v at in
      let here : id ≡ 0 = leader id v old.first leads in
      let long : length cut ≡ k.splits + 1 = length-set s.views id w ∙ k.seats in
      let opened : (t : ℕ) → times_open t (cut ++ new ∷ []) ≡ times_open t s.views =
      (λ t. omega (arith, sum_by_push (λ (u : View). times t (open_tiles u)) cut new, sum_same (λ (u : View). times t (open_tiles u)) s.views id v w at refl)) in
      let given : (t : ℕ) → times_given t (cut ++ new ∷ []) ≡ times_given t s.views =
      (λ t. omega (arith, sum_by_push (λ (u : View). times t u.given) cut new, sum_same (λ (u : View). times t u.given) s.views id v w at refl)) in
      record {
        claims = k.claims;
        gives = k.gives;
        stop = k.stop;
        gathered = k.gathered;
        splits = k.splits + 1;
        words = k.words;
        each = λ j u there. ⊎_elim
            (λ (kept : get_elem? cut j ≡ some u). knows_set k.claims k.gives k.stop k.gathered (k.splits + 1) s.views id w
            (λ i y apart at_y. knows_beside k.claims k.gives k.claims k.gives k.stop k.stop k.gathered k.gathered k.splits (k.splits + 1) i y (λ e. apart (e ∙ sym here)) (omega arith) (omega arith) (k.each i y at_y))
            record { keyed = old.keyed; first = old.first; leads = λ _. ((old.leads leads).0, (old.leads leads).1, ap (λ y. y + 1) (old.leads leads).2); later = λ is. absurd (off (sym is ∙ leads)); claims_seen = old.claims_seen; gives_seen = old.gives_seen }
            j u kept)
            (λ (last : (j ≡ length cut) × (new ≡ u)). subst (Knows key k.claims k.gives k.stop k.gathered (k.splits + 1) j) last.1
            record { keyed = old.keyed; first = sym (ne_eqb j 0 (λ e. omega (arith, e, last.0))); leads = λ is. absurd (off is); later = λ _. (refl, refl); claims_seen = omega arith; gives_seen = omega arith })
            (at_end cut new u j there);
        once = λ t below. omega (arith, k.once t below, opened t, given t);
        no_more = λ t above. omega (arith, k.no_more t above, opened t, given t);
        given = omega (arith, k.given, sum_by_push (λ (u : View). length u.given) cut new, sum_same (λ (u : View). length u.given) s.views id v w at refl);
        homes = λ t below none_there there. let home = k.homes t below (omega (arith, none_there, opened t)) there in
            (home.0, home.1, home.2, λ some_given. home.3 (omega (arith, some_given, given t)));
        collected = λ t there. omega (arith, k.collected t there, given t);
        late = omega (arith, k.late, sum_by_push (λ (u : View). one_if u.late) cut new, sum_same (λ (u : View). one_if u.late) s.views id v w at refl);
        seats = length-append cut (new ∷ []) ∙ omega (arith, long);
        few = omega (arith, (old.leads leads).2, room);
        stopped = k.stopped;
      }

  -- collect

  -- where a view has seen all tiles given, each is given, and none is open
  all_given : (s : ClaimTable) (k : Rule s) → n ≤ k.gives → (t : ℕ) → t < n → (times_open t s.views ≡ 0) × (0 < times_given t s.views)
  all_given s k all t below =
      let once = k.once t (omega (arith, taken_le s k, in_all s k)) in
      let within : times_open t s.views ≤ sum_by (λ (u : View). length (open_tiles u)) s.views =
      sum_by-le-sum_by (λ (u : View). times t (open_tiles u)) (λ (u : View). length (open_tiles u)) s.views (λ u. count_by-le-length (λ y. y == t) (open_tiles u)) in
      let idle : times_open t s.views ≡ 0 = omega (arith, within, in_all s k, taken_le s k) in
      (idle, omega arith)

  -- where any view has seen all tiles given, all are there
  pub seen_shown : (s : ClaimTable) → Rule s → (seat : ℕ) (v : View) → get_elem? s.views seat ≡ some v → v.gives.last ≡ tiles_of v.key → (t : ℕ) → t < n → IsShown key t s
  seen_shown s k seat v at all t below =
      let mine = k.each seat v at in
      let keys : tiles_of v.key ≡ n = ap tiles_of mine.keyed in
      let full : n ≤ k.gives = omega (arith, mine.gives_seen) in
      let given = all_given s k full t below in
      record {
        given = omega (arith, given.0, given.1, once_at_most s k t);
        filled = λ first at_first there.
            let leads = k.each 0 first at_first in
            let home = k.homes t below given.0 (sym (ap (times t) (leads.leads leads.first).1) ∙ there) in
            (home.0, home.1, home.3 given.1);
      }

  -- the rule after a tile was collected
  collect_kept : (s : ClaimTable) (k : Rule s) (id : ℕ) (v : View) → get_elem? s.views id ≡ some v → v.first ≡ true → n ≤ k.gives → (t : ℕ) → t < n → (words : List ℕ) → words ≡ k.claims ∷ k.gives ∷ []
      → Rule record { words = words; homes = set s.homes t none; views = set s.views id (collecting v t) }
  collect_kept s k id v at leads all t below words words_are =
      let w : View = collecting v t in
      let views : List View = set s.views id w in
      let old = k.each id v at in
      let here : id ≡ 0 = leader id v old.first leads in
      let gathered : List ℕ = t ∷ v.collected in
      let same : v.collected ≡ k.gathered = (old.leads leads).1 in
      let opened : (u : ℕ) → times_open u views ≡ times_open u s.views = (λ u. sum_same (λ (y : View). times u (open_tiles y)) s.views id v w at refl) in
      let given : (u : ℕ) → times_given u views ≡ times_given u s.views = (λ u. sum_same (λ (y : View). times u y.given) s.views id v w at refl) in
      let earlier : (u : ℕ) → times u v.collected ≡ times u k.gathered = (λ u. ap (times u) same) in
      record {
        claims = k.claims;
        gives = k.gives;
        stop = k.stop;
        gathered = gathered;
        splits = k.splits;
        words = words_are;
        each = knows_set k.claims k.gives k.stop gathered k.splits s.views id w
            (λ j u apart there. knows_beside k.claims k.gives k.claims k.gives k.stop k.stop k.gathered gathered k.splits k.splits j u (λ e. apart (e ∙ sym here)) (omega arith) (omega arith) (k.each j u there))
            record { keyed = old.keyed; first = old.first; leads = λ _. ((old.leads leads).0, refl, (old.leads leads).2); later = λ is. absurd (off (sym is ∙ leads)); claims_seen = old.claims_seen; gives_seen = old.gives_seen };
        once = λ u low. omega (arith, k.once u low, opened u, given u);
        no_more = λ u high. omega (arith, k.no_more u high, opened u, given u);
        given = sum_same (λ (u : View). length u.given) s.views id v w at refl ∙ k.given;
        homes = λ u low none_open there.
            let apart : u ≢ t = (λ e. let here = times-same t v.collected in let moved : times u (t ∷ v.collected) ≡ times t (t ∷ v.collected) = ap (λ y. times y (t ∷ v.collected)) e in omega (arith, there)) in
            let home = k.homes u low (omega (arith, none_open, opened u)) (omega (arith, there, times-more u t v.collected, earlier u)) in
            (home.0, set_else s.homes t u none apart ∙ home.1, home.2, λ some_given. home.3 (omega (arith, some_given, given u)));
        collected = λ u there. ⊎_elim
            (λ (e : (t ≡ u) × (times u (t ∷ v.collected) ≡ 1 + times u v.collected)). subst (λ y. 0 < times_given y views) e.0 (omega (arith, (all_given s k all t below).1, given t)))
            (λ (e : (t ≢ u) × (times u (t ∷ v.collected) ≡ times u v.collected)). omega (arith, k.collected u (omega (arith, there, e.1, earlier u)), given u))
            (times-cons u t v.collected);
        late = omega (arith, k.late, sum_same (λ (u : View). one_if u.late) s.views id v w at refl);
        seats = length-set s.views id w ∙ k.seats;
        few = k.few;
        stopped = k.stopped;
      }

  pub collects : (slots id t : ℕ) (me : Sat) → me.0.first ≡ true → me.0.gives.last ≡ tiles_of me.0.key → t < tiles_of me.0.key → times t me.0.collected ≡ 0
      → Allows Rule slots id me 1 (λ g. g) (Collects t (step slots 1 0 0 none) me)
  collects slots id t me leads seen within there s k deep at fits =
      let v : View = me.0 in
      let x : ℕ = get_or s.words 1 0 in
      let x_is : x ≡ k.gives = ap (λ ws. get_or ws 1 0) k.words in
      let old = k.each id v at in
      let keys : tiles_of v.key ≡ n = ap tiles_of old.keyed in
      let here : id ≡ 0 = leader id v old.first leads in
      let all : n ≤ k.gives = omega (arith, old.gives_seen, seen) in
      let below : t < n = omega (arith, within) in
      let given = all_given s k all t below in
      let home = k.homes t below given.0 (sym (ap (times t) (old.leads leads).1) ∙ there) in (
        collecting v t,
        takes t (Some home.0),
        home.1,
        collect_kept s k id v at leads all t below (set s.words 1 x) (ap (λ y. set s.words 1 y) x_is ∙ ap (λ ws. set ws 1 k.gives) k.words),
        record {
          idle = seen_all s k v (ap (get_elem? s.views) (sym here) ∙ at) seen id v at;
          taken = (home.0, refl {a = (collecting v t, (t, Some home.0) ∷ me.1)}, subst (λ q. IsFilled q t home.0) (sym old.keyed) (home.3 given.1));
        },
      )

  -- the table at the start

  pub starts : (slots : List (Option Pixels)) → ((t : ℕ) → t < n → (p : Pixels) × (get_elem? slots t ≡ some (Some p)) × IsSized key t p)
      → Rule (opening (0 ∷ 0 ∷ []) slots (new_view true key))
  starts slots there = record {
    claims = 0;
    gives = 0;
    stop = None;
    gathered = [];
    splits = 0;
    words = refl;
    each = first_knows;
    once = λ t below. absurd (omega (arith, below));
    no_more = λ t above. refl;
    given = refl;
    homes = λ t below none_open none_gathered. let home = there t below in (home.0, at_map some slots t (Some home.0) home.1, home.2, λ some_given. absurd (omega (arith, some_given)));
    collected = λ t some_there. absurd (omega (arith, some_there));
    late = omega arith;
    seats = refl;
    few = omega arith;
    stopped = λ m is. cc;
  }
    where
      first_knows : (seat : ℕ) (v : View) → get_elem? (new_view true key ∷ []) seat ≡ some v → Knows key 0 0 None [] 0 seat v
      first_knows zero v at = subst (Knows key 0 0 None [] 0 0) (some-injective (new_view true key) v at)
          record { keyed = refl; first = refl; leads = λ _. (refl, refl, refl); later = λ is. absurd (off (sym is)); claims_seen = omega arith; gives_seen = omega arith }
      first_knows (suc seat) v at = absurd (some-ne-none v (sym at))
