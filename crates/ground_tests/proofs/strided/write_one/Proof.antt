-- `write_one` meets its contract: the block is lent again, and the loan of the elements is written, or there is none.
use Rattle.std.proofs.Common.{ℕ, ◌≡◌, ◌<◌, ◌^◌, IsTrue, List, [], ◌∷◌, ◌++◌, length, refl, sym, ap, ◌∙◌, subst, arith, w64, MutBor}
use Rattle.std.proofs.raw_atomic.Walks.{proved, leaves}
use mir.Val.{Val, vunit, of_list}
use mir.Syntax.{named}
use base.Fraction.{full_share}
use base.Logic.{id⊢, emp}
use base.Fml.{ftrue, flft, GName}
use contract.Monad.{fact, fact_i}
use contract.Running.{tables}
use types.Kit.{‵, raw, ◌⊛◌, some, later, given, learn, ◌$◌, ◌∵◌, !, qed, by, move, drop, use0, use1, use2, use3, split, join, fsplit, fjoin, fpick, feq_l, feq_i, pick, await, rewrite, at_ret, prop, Sq}
use types.Run.{enter, of_opd, addr, stop, fld, hop, no_more, and_then, returns, from, unit_lit, first, skips, exec, switches}
use types.Part.{whole, sub, agg}
use types.ByLocal.{alloc_all, pass_all, free_all, look_at, look_in_at, get, get_in, sets, lands_as, get_tag, lands_last, env}
use types.Tokens.{lft_new, lft_end}
use denote.Builtin.{u8, u64, unit, RefOf}
use denote.Exit.{yes}
use denote.Laws.{Is, Typed, shows}
use denote.Plain.{uint_vals, uint_Tells, uint_Makes}
use denote.Ref.{shr_vals, shr_Tells}
use denote.RattleType.{owns}
use denote.Signature.{plain, named_lft, types_at}
use denote.Slice.{mut_slice_vals, mut_slice_Tells, slice_val, finally}
use denote.Steps.{nothing, owned, heard, peeks, only}
use denote.Triple.Call.{calls_at, calls_at_last}
use lib.Dec.{lit<}
use denote.Triple.Clauses.{Lasts, lasts}
use denote.Triple.Spec.{triple_of}
use denote.Triple.Table.{framed}
use denote.Triple.Walked.{Stays, walk_of, stay_dropped, stay_slice, Goes-dropped, Goes-slice}
use denote.Enum.Laws.{makes}
use contract.Lifetimes
use borrow.Table.Owned as owned
use borrow.Rule.Slice.Lend.{kept_f, sl_relend, sl_relent_backˡ}
use Rattle.std.specs.Borrow.{Array, RestsIfNone}
use Rattle.dev_types.specs.Blocks.{FitsBlock, with_part}
use Rattle.dev_types.specs.ValueBytes.{type_of, bytes_of, is_well_typed}
use Rattle.dev_types.specs.contracts.data_types.DataType as D
use Rattle.dev_types.proofs.data_types.DataType.TheLaws as D'
use Rattle.dev_types.specs.contracts.values.Value as V
use Rattle.byte_view.specs.declared.writes.StridedMut.{StridedMut}
use Rattle.byte_view.specs.Elements.{Elements}
use Rattle.byte_view.specs.Halves.{elements, borrow_of}
use Rattle.byte_view.specs.contracts.writes.StridedMut as S
use Rattle.byte_view.proofs.writes.StridedMut.TheLaws as S'
use Rattle.ground_tests.specs.contracts.strided.write_one as f
use Rattle.byte_view.specs.contracts.writes.StridedMut.new as g
use Rattle.byte_view.specs.contracts.writes.StridedMut.put as p
use Rattle.byte_view.proofs.writes.StridedMut.new.Met as gm
use Rattle.byte_view.proofs.writes.StridedMut.put.Met as pm
use Rattle.ground_tests.proofs.strided.write_one.Statement.{statement}
use Rattle.ground_tests.proofs.strided.write_one.Code as code
use Rattle.byte_view.proofs.Loans.{type_typed, loan_typed, Bytes}
use Rattle.byte_view.proofs.Options.{some_val, none_val, field_typed, rested, by_option}
use Rattle.std.specs.Prelude.{Option, IsSome, IfSome, ◌↔◌}
use Rattle.std.specs.contracts.option.Option as O
use Rattle.std.proofs.lemmas.Bool.{false≢true}
use types.Match.{vrt, in_variant, live}

abbrev stayed : Stays f.ended.signature.params f.ended.kept
stayed =
    let number = stay_dropped (plain (λ _. u64)) yes in
    (stay_slice (0 ∷ []) tt (plain (λ _. u8)), (stay_dropped (plain (λ _. D.the_row)) yes, (number, (number, (number, (stay_dropped _ yes, tt))))))

pub write_one_spec : {M : Type 1} → statement M
write_one_spec 𝓤 𝓛 𝓜 𝓡 wired =
    let c = f.clauses 𝓛 𝓜.mem 𝓡.returns in
    let W = walk_of 𝓛 f.ended stayed c in
    let 𝓣 = tables 𝓤 𝓛.H 𝓜 𝓡 𝓡.env in
    let number = Goes-dropped 𝓛 2 (plain (λ _. u64)) yes (λ κs x w. refl) in
    proved 𝓛 f.ended stayed c 𝓜 𝓡
    (Goes-slice 𝓛 2 0 tt (plain (λ _. u8)), (Goes-dropped 𝓛 2 (plain (λ _. D.the_row)) yes (λ κs x w. refl), (number, (number, (number, (Goes-dropped 𝓛 2 (RefOf (1 ∷ []) tt (plain (λ _. V.the_row)) (λ _. tt)) yes (λ κs x w. refl), tt))))))
    f.Key.name code.function (code.unfolded 𝓤 𝓛.H 𝓜 𝓡 wired)
    (λ κs. (mut_slice_vals, ((λ d. D'.lowered d ∷ []), (uint_vals w64, (uint_vals w64, (uint_vals w64, (shr_vals, tt)))))))
    (λ κs. (mut_slice_Tells (named 0) κs.0 u8, (D'.lowers.val_is, (uint_Tells w64, (uint_Tells w64, (uint_Tells w64, (shr_Tells (named 1) κs.1.0 V.the_row, tt)))))))
    (λ κs qs bounds a _ are.
    let κ = κs.0 in
    let q = qs.0 in
    let ref = a.0 in
    let ty = a.1.0 in
    let stride = a.1.1.0 in
    let count = a.1.1.1.0 in
    let i = a.1.1.1.1.0 in
    let v = a.1.1.1.1.1.0 in
    let Fits : Type 0 = FitsBlock ty stride count (length ref.now) in
    let First : Type 0 = (type_of v.now ≡ ty) × IsTrue (is_well_typed v.now) in
    let y : W.Ghost = ((κs, qs, bounds, a, (mut_slice_vals ref, (D'.lowered ty ∷ [], (uint_vals w64 stride, (uint_vals w64 count, (uint_vals w64 i, (shr_vals v, tt))))))), tt) in
    qed 𝓛 (((‵ (flft κs.0 qs.0) ⊛ ‵ (flft κs.1.0 qs.1.0) ⊛ ‵ ftrue) ⊛ ‵ (owns (types_at f.signature.params κs) a y.0.4)) ∷ (raw (fact 𝓤 (i < count)) ⊛ raw (fact 𝓤 First)) ∷ []) ∵
    move ! (1 ∷ []) $ split ! $ heard ! (i < count) (λ within. heard ! First (λ first_.
    split ! $ split ! $ move ! (1 ∷ []) $ split ! $ move ! (1 ∷ []) $ drop ! $ move ! (2 ∷ []) $
    fsplit ! $ move ! (1 ∷ []) $ fsplit ! $ drop ! $ fsplit ! $ drop ! $ fsplit ! $ drop ! $ fsplit ! $ drop ! $ fsplit ! $ move ! (1 ∷ []) $ drop ! $
    -- [the value; the block; its token, the value's]
    move ! (1 ∷ 0 ∷ 3 ∷ 2 ∷ []) $
    let fits_all : length ref.now < 2 ^ 64 = are.0.0.1.0 in
    let typed_ty = (type_typed 𝓛 ty are.1.0).0 in
    let fits_stride : stride < 2 ^ 64 = are.1.1.0.1 in
    let fits_count : count < 2 ^ 64 = are.1.1.1.0.1 in
    let fits_i : i < 2 ^ 64 = are.1.1.1.1.0.1 in
    enter ! _ _ _ _ _ $ alloc_all ! (λ l. pass_all ! refl ((tt, (tt, (record { fits = fits_all }, tt))), (typed_ty, ((tt, record { fits = fits_stride }), ((tt, record { fits = fits_count }), ((tt, record { fits = fits_i }), ((tt, tt), tt)))))) $
    sets ! (addr ! (from ! (fld ! refl (hop ! (look_in_at ! 1 (sub ! 0 refl (whole !))) (stop !))))) refl (tt, tt) $
    sets ! (agg ! (and_then ! (get ! refl) (and_then ! (get_in ! (fld ! refl (stop !)) (sub ! 1 refl (whole !))) (no_more !)))) refl (tt, (tt, (record { fits = fits_all }, tt))) $
    fsplit ! $ fsplit ! $ drop ! $ fjoin ! $ lft_new ! tt (λ α. move ! (1 ∷ 3 ∷ []) $
    let κs₁ : Lifetimes.Lfts 1 = (α ∷ [], tt) in
    let L = named_lft 1 0 tt κs₁ in
    use2 𝓛 (later (some (λ (δ : ℕ). ‵ ((owned.MutSlice (named 0) (α ∷ []) u8).own_val (record ref { ghost_name = δ })) ⊛ kept_f 𝓛 u8 κ q (α ∷ []) ref.ghost_name δ ref.now ref.ref_ptr.0 ref.ref_ptr.1)))
    (sl_relend 𝓛 u8 κ q (α ∷ []) ref.ref_ptr.0 ref.ref_ptr.1 ref.ghost_name ref.now) $ await ! tt $ pick ! (λ δ. split ! $
    let lent : MutBor (List ℕ) = record ref { ghost_name = δ } in
    fsplit ! $ feq_i ! (List Val) (mut_slice_vals lent) (mut_slice_vals lent) refl $ fjoin ! $ fjoin ! $
    -- [the loan of the block; what the lender keeps; the token of α; the value; its token]
    let G = triple_of 𝓛 g.signature (g.spec 𝓛 𝓜.mem 𝓡.returns) in
    let z : G.Ghost = ((κs₁, (full_share, tt), tt, (lent, (ty, (stride, (count, tt)))), (mut_slice_vals lent, (D'.lowered ty ∷ [], (uint_vals w64 stride, (uint_vals w64 count, tt))))), tt) in
    nothing ! $ owned ! u64 (Is u64) (uint_Makes 𝓛 w64) count (uint_vals w64 count) (refl, fits_count) $ fjoin ! $
    owned ! u64 (Is u64) (uint_Makes 𝓛 w64) stride (uint_vals w64 stride) (refl, fits_stride) $ fjoin ! $
    owned ! D.the_row (Is D.the_row) (makes D.the_type D'.the_plain 𝓛) ty (D'.lowered ty ∷ []) are.1.0 $ fjoin ! $
    move ! (1 ∷ 0 ∷ []) $ fjoin ! $ nothing ! $ move ! (3 ∷ 0 ∷ []) $ join ! $ join ! $
    nothing ! $ move ! (1 ∷ 0 ∷ []) $ use2 𝓛 (raw (G.pre z)) (id⊢ 𝓤 _) $
    calls_at ! (framed 𝓤 𝓛.H 𝓜 𝓣) G (gm.met 𝓤 𝓛 𝓜 𝓡 (code.calls-byte_view::writes::StridedMut::new 𝓡.env wired)) z
    (and_then ! (get ! refl) (and_then ! (get ! refl) (and_then ! (get ! refl) (and_then ! (get ! refl) (no_more !))))) (λ u.
    let Valid : Option StridedMut → Type 0 = λ o. IsSome o ↔ Fits in
    let Value : Option StridedMut → Type 0 = λ o. IfSome o (λ s. elements s ≡ record { ty = ty; stride = stride; count = count; bytes = ref.now }) in
    let Same : Option StridedMut → Type 0 = λ o. IfSome o (λ s. borrow_of s ≡ δ) in
    let Own = λ (o : Option StridedMut). (O.the_row (S.the_row L)).own_val o (u ∷ []) in
    let Rests = λ (o : Option StridedMut). RestsIfNone (Array u8 0) lent borrow_of o (λ last. last ≡ lent.now) in
    use1 𝓛 (later (some (λ (o : Option StridedMut). ((‵ (flft (α ∷ []) full_share) ⊛ ‵ ftrue) ⊛ ‵ (Own o)) ⊛
    some (λ (ws : Lasts g.ended κs₁ z.0.3). ‵ (lasts g.ended κs₁ z.0.3 ws) ⊛
    raw (fact 𝓤 (Valid o)) ⊛ raw (fact 𝓤 (Value o)) ⊛ raw (fact 𝓤 (Same o)) ⊛ ‵ (Rests o))))) (id⊢ 𝓤 _) $
    await ! tt $ pick ! (λ o. split ! $ split ! $ split ! $ move ! (3 ∷ []) $ pick ! (λ ws. split ! $ drop ! $
    split ! $ heard ! (Valid o) (λ valid. split ! $ heard ! (Value o) (λ value. split ! $ heard ! (Same o) (λ same.
    -- [how the block rests; the token of α; nothing; the answer; what the lender keeps; the value; its token]
    move ! (3 ∷ 0 ∷ 1 ∷ 2 ∷ []) $
    let Written : List ℕ → Type 0 = λ last. Fits → last ≡ with_part ty stride ref.now i (bytes_of v.now) in
    let Kept : List ℕ → Type 0 = λ last. ¬ Fits → last ≡ ref.now in
    let ends : (last : List ℕ) → length last ≡ length ref.now → Written last → Kept last
    → Sq 𝓛 (‵ ((Bytes (named_lft 2 0 tt κs)).own_val (record ref { now = last }) (mut_slice_vals ref)) ∷ ‵ (flft κ q) ∷ ‵ (flft κs.1.0 qs.1.0) ∷ []) (prop (W.post y vunit)) =
    λ last long written kept.
    nothing ! $ nothing ! $ fjoin ! $ nothing ! $ fjoin ! $ nothing ! $ fjoin ! $ nothing ! $ fjoin ! $ nothing ! $ fjoin ! $ move ! (1 ∷ 0 ∷ []) $ fjoin ! $
    nothing ! $ move ! (3 ∷ 0 ∷ []) $ join ! $ move ! (2 ∷ 0 ∷ []) $ join ! $
    feq_i ! (List Val) (vunit ∷ []) (vunit ∷ []) refl $ use0 𝓛 (raw (fact 𝓤 (Kept last))) (fact_i 𝓤 (Kept last) (emp 𝓤) kept) $ use0 𝓛 (raw (fact 𝓤 (Written last))) (fact_i 𝓤 (Written last) (emp 𝓤) written) $ join ! $
    move ! (2 ∷ 3 ∷ 1 ∷ 0 ∷ []) $
    by ! (leaves 𝓛 f.ended stayed c y vunit tt (last, (tt, (tt, (tt, (tt, (tt, tt)))))) (long, (tt, (tt, (tt, (tt, (tt, tt))))))) in
    by_option o
    (λ none. rewrite ! 0 (λ (p' : Option StridedMut). ‵ (Own p')) none refl $ rewrite ! 1 (λ (p' : Option StridedMut). ‵ (Rests p')) none refl $
    fpick ! (λ fs. fsplit ! $ feq_l ! (λ e. fpick ! (λ vs. fsplit ! $ feq_l ! (λ e'. drop ! $
    let is_u : u ∷ [] ≡ none_val ∷ [] = e ∙ (λ n. live 0 (of_list (e' n)) ∷ []) in
    let apart : ¬ Fits = λ h. false≢true ((subst Valid none valid).1 h) in
    lands_as ! (ap only is_u) refl (tt, (record { fits = lit< tt }, tt)) $
    use1 𝓛 (‵ (finally u8 δ ref.now)) (rested 𝓛 lent) $
    first ! $ switches ! (get_tag ! (vrt ! refl (fld ! refl (stop !))) (whole !)) (
      (λ hit. absurd (omega (arith, hit))),
      (
        (λ hit. skips ! $ exec ! 𝓣.C 𝓣.Λ (env code.Mir.locals l) code.Mir.t-5 (at_ret _ (W.post y)) $
            sets ! (of_opd ! (unit_lit !)) refl (tt, tt) $
            move ! (2 ∷ []) $ drop ! $ move ! (3 ∷ []) $ drop ! $ move ! (1 ∷ []) $ lft_end ! tt $ move ! (0 ∷ 2 ∷ 1 ∷ []) $
            use3 𝓛 (later (given (length ref.now ≡ length ref.now) (‵ ((owned.MutSlice (named 0) κ u8).own_val (record ref { now = ref.now })) ⊛ ‵ (flft κ q))))
            (sl_relent_backˡ 𝓛 u8 κ q (α ∷ []) ref.ref_ptr.0 ref.ref_ptr.1 ref.ghost_name δ ref.now ref.now) $ await ! tt $ learn ! (λ long. split ! $
            let out : MutBor (List ℕ) = record ref { now = ref.now } in
            fsplit ! $ feq_i ! (List Val) (mut_slice_vals ref) (mut_slice_vals out) (λ n. slice_val ref.ref_ptr (sym long n) ∷ []) $ fjoin ! $ fjoin ! $
            returns ! (look_at ! 0 refl) $ free_all ! refl $
            ends ref.now long (λ h. absurd (apart h)) (λ _. refl))),
        (λ n. absurd (n.1 refl)),
      ),
    ))))))
    (λ t some_. rewrite ! 0 (λ (p' : Option StridedMut). ‵ (Own p')) some_ refl $
    fpick ! (λ fs. fsplit ! $ feq_l ! (λ e. fpick ! (λ vs. fsplit ! $ feq_l ! (λ e'. fsplit ! $
    peeks ! (S.the_row L) (Is (S.the_row L)) (shows 𝓛 (S.the_row L)) t vs.0 (λ is.
    let is_t = (S'.lowers L).val_is t vs.0 is in
    let loan = subst (Is (S.the_row L) t) is_t is in
    rewrite ! 0 (λ (us : List Val). ‵ ((S.the_row L).own_val t us)) is_t refl $
    let is_u : u ∷ [] ≡ some_val (S'.lowered t) ∷ [] = e ∙ (λ n. live 1 (of_list (e' n)) ∷ []) ∙ (λ n. live 1 (of_list (is_t n ++ [])) ∷ []) in
    let fits : Fits = (subst Valid some_ valid).0 refl in
    let value_t : elements t ≡ record { ty = ty; stride = stride; count = count; bytes = ref.now } = subst Value some_ value in
    let same_t : t.bytes.ghost_name ≡ δ = subst Same some_ same in
    lands_as ! (ap only is_u) refl (field_typed 𝓛 L t loan) $
    move ! (1 ∷ []) $ drop ! $ move ! (1 ∷ []) $ drop ! $ move ! (2 ∷ []) $ drop ! $
    -- [the loan of the elements; the token of α; what the lender keeps; the value; its token]
    let κs₂ : Lifetimes.Lfts 2 = (α ∷ [], (κs.1.0, tt)) in
    let G₃ = triple_of 𝓛 p.signature (p.spec 𝓛 𝓜.mem 𝓡.returns) in
    let z₃ : G₃.Ghost = ((κs₂, (full_share, (qs.1.0, tt)), tt, (t, (i, (v, tt))), (S'.lowered t ∷ [], (uint_vals w64 i, (shr_vals v, tt)))), tt) in
    let same_count : t.count ≡ count = ap (λ (x : Elements). x.count) value_t in
    let t_within : i < t.count = omega arith in
    let t_typed : type_of v.now ≡ t.ty = first_.0 ∙ sym (ap (λ (x : Elements). x.ty) value_t) in
    nothing ! $ move ! (4 ∷ 0 ∷ []) $ fjoin ! $ owned ! u64 (Is u64) (uint_Makes 𝓛 w64) i (uint_vals w64 i) (refl, fits_i) $ fjoin ! $ move ! (1 ∷ 0 ∷ []) $ fjoin ! $
    nothing ! $ move ! (4 ∷ 0 ∷ []) $ join ! $ move ! (2 ∷ 0 ∷ []) $ join ! $ join ! $
    use0 𝓛 (raw (fact 𝓤 (IsTrue (is_well_typed v.now)))) (fact_i 𝓤 (IsTrue (is_well_typed v.now)) (emp 𝓤) first_.1) $
    use0 𝓛 (raw (fact 𝓤 (type_of v.now ≡ t.ty))) (fact_i 𝓤 (type_of v.now ≡ t.ty) (emp 𝓤) t_typed) $ join ! $
    use0 𝓛 (raw (fact 𝓤 (i < t.count))) (fact_i 𝓤 (i < t.count) (emp 𝓤) t_within) $ join ! $ move ! (1 ∷ 0 ∷ []) $ use2 𝓛 (raw (G₃.pre z₃)) (id⊢ 𝓤 _) $
    first ! $ switches ! (get_tag ! (vrt ! refl (fld ! refl (stop !))) (whole !)) (
      (λ hit. sets ! (of_opd ! (get_in ! (vrt ! refl (fld ! refl (stop !))) (in_variant ! 1 0 refl refl (whole !)))) refl (loan_typed L 𝓛 t loan).0 $
          sets ! (of_opd ! (get ! refl)) refl (loan_typed L 𝓛 t loan).0 $
          calls_at_last ! (framed 𝓤 𝓛.H 𝓜 𝓣) G₃ (pm.met 𝓤 𝓛 𝓜 𝓡 (code.calls-byte_view::writes::StridedMut::put 𝓡.env wired)) z₃
          (and_then ! (get ! refl) (and_then ! (get ! refl) (and_then ! (get ! refl) (no_more !)))) (λ u₃.
          use1 𝓛 (later (some (λ (n : Unit {0}). ((‵ (flft (α ∷ []) full_share) ⊛ ‵ (flft κs.1.0 qs.1.0) ⊛ ‵ ftrue) ⊛ ‵ (unit.own_val n (u₃ ∷ []))) ⊛
          some (λ (ws₃ : Lasts p.ended κs₂ z₃.0.3). ‵ (lasts p.ended κs₂ z₃.0.3 ws₃) ⊛
          raw (fact 𝓤 (ws₃.0.0 ≡ with_part t.ty t.stride t.bytes.now i (bytes_of v.now))))))) (id⊢ 𝓤 _) $
          await ! tt $ pick ! (λ n₃. split ! $ split ! $ move ! (2 ∷ []) $ pick ! (λ ws₃. split ! $
          fsplit ! $ move ! (1 ∷ []) $ drop ! $ fsplit ! $ fsplit ! $ fsplit ! $ move ! (1 ∷ []) $ feq_l ! (λ long₁. move ! (3 ∷ []) $
          heard ! (ws₃.0.0 ≡ with_part t.ty t.stride t.bytes.now i (bytes_of v.now)) (λ done₁. move ! (4 ∷ []) $ feq_l ! (λ is_unit. lands_last ! refl (subst (Typed unit.mir) (sym is_unit) ((tt, tt), tt)).0 $
          exec ! 𝓣.C 𝓣.Λ (env code.Mir.locals l) code.Mir.t-5 (at_ret _ (W.post y)) $
          sets ! (of_opd ! (unit_lit !)) refl (tt, tt) $
          move ! (3 ∷ []) $ split ! $ move ! (1 ∷ []) $ split ! $ move ! (1 ∷ []) $ drop ! $ move ! (3 ∷ []) $ drop ! $ move ! (3 ∷ []) $ drop ! $ move ! (2 ∷ []) $
          rewrite ! 0 (λ (g' : GName). ‵ (finally u8 g' ws₃.0.0)) same_t refl $ move ! (2 ∷ []) $ lft_end ! tt $ move ! (0 ∷ 3 ∷ 1 ∷ []) $
          let done : ws₃.0.0 ≡ with_part ty stride ref.now i (bytes_of v.now) = done₁ ∙ ap (λ (x : Elements). with_part x.ty x.stride x.bytes i (bytes_of v.now)) value_t in
          use3 𝓛 (later (given (length ws₃.0.0 ≡ length ref.now) (‵ ((owned.MutSlice (named 0) κ u8).own_val (record ref { now = ws₃.0.0 })) ⊛ ‵ (flft κ q))))
          (sl_relent_backˡ 𝓛 u8 κ q (α ∷ []) ref.ref_ptr.0 ref.ref_ptr.1 ref.ghost_name δ ref.now ws₃.0.0) $ await ! tt $ learn ! (λ long. split ! $
          let out : MutBor (List ℕ) = record ref { now = ws₃.0.0 } in
          fsplit ! $ feq_i ! (List Val) (mut_slice_vals ref) (mut_slice_vals out) (λ n. slice_val ref.ref_ptr (sym long n) ∷ []) $ fjoin ! $ fjoin ! $
          returns ! (look_at ! 0 refl) $ free_all ! refl $
          ends ws₃.0.0 long (λ _. done) (λ no_. absurd (no_ fits)))))))))),
      ((λ hit. absurd (omega (arith, hit))), (λ n. absurd (n.0.1 refl))),
    )))))))))))))))))))
