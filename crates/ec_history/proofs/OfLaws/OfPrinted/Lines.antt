-- Line by line printed order is legal, since the placing is.
use Rattle.std.proofs.Common.{◌≡◌, refl, sym, ap, subst, ◌∙◌, inl, inr, ◌⊎◌, ◌+◌, ℕ, Bool, true, false, ◌||◌, cond, List, [], ◌∷◌, ◌++◌, length, Option, Some, None, append-nil, append_assoc}
use Rattle.std.proofs.lemmas.Bool.{true≢false}
use Rattle.std.specs.Prelude.{is_some}
use Rattle.std.specs.List.{list_any}
use Rattle.ec_volume.specs.Update.{listed}
use Rattle.ec_plain.specs.declared.call.Call.{Call}
use Rattle.ec_history.specs.History.{Base, Each, History, is_entry_of}
use Rattle.ec_history.specs.Legal.{IsLegal, IsLegalNext}
use Rattle.ec_history.specs.Placing.{begun, before_line, call_entry, is_call_of, is_end_of, is_running, last_place, late, ops_in, owner, place, unwatched, watch}
use Rattle.ec_history.specs.declared.entry.Answer.{Answer}
use Rattle.ec_history.specs.declared.entry.Entry.TheVariants as entry
use Rattle.ec_history.specs.declared.shown.Shown.{Shown}
use Rattle.ec_history.specs.declared.shown.Shown.TheVariants.{Answered, Ended}
use Rattle.ec_history.proofs.OfLaws.ForPlacing.Cuts.{legal-split, legal-step, throughout-back}
use Rattle.ec_history.proofs.OfLaws.ForPlacing.Held.{place-late, place-other}
use Rattle.ec_history.proofs.OfLaws.ForPlacing.Late.{ops_in-append, place-answer, place-ended, still-held}
use Rattle.ec_history.proofs.OfLaws.ForPlacing.Watching.{untold-runs}
use Rattle.ec_history.specs.OfLaws.OfPrinted.Printed.{printed_from}
use Rattle.ec_history.specs.OfLaws.OfPrinted.Timely.{AreTimely, IsBare, IsTimely, TimelyAreLegal}
use Rattle.ec_history.proofs.OfLaws.OfPrinted.Moved.{E, IsMoved, legal-moved, moved-next, moved-none, moved-on}
use Rattle.ec_history.proofs.OfLaws.OfPrinted.Bare as bare
use Rattle.ec_base.specs.Options.{or_zero}
use Rattle.ec_base.proofs.Numbers.{equal}

-- What a line gives by itself.

abbrev own-entries : List Shown → Shown → History
own-entries past (Answered l c cl a op) = call_entry past (Answered l c cl a op)
own-entries past (Ended c ns) = (length past + 1, entry.Loss c (or_zero (owner (watch c past))) ns) ∷ []
own-entries past _ = []

abbrev own-from : List Shown → List Shown → History
own-from past [] = []
own-from past (s ∷ rest) = own-entries past s ++ own-from (past ++ s ∷ []) rest

own-step : (past ss : List Shown) (s : Shown) → own-from past (ss ++ s ∷ []) ≡ own-from past ss ++ own-entries (past ++ ss) s
own-step past [] s = append-nil (own-entries past s) ∙ sym (ap (λ z. own-entries z s) (append-nil past))
own-step past (x ∷ ss) s =
    ap (λ z. own-entries past x ++ z) (own-step (past ++ x ∷ []) ss s)
    ∙ sym (append_assoc (own-entries past x) (own-from (past ++ x ∷ []) ss) (own-entries ((past ++ x ∷ []) ++ ss) s))
    ∙ ap (λ z. (own-entries past x ++ own-from (past ++ x ∷ []) ss) ++ own-entries z s) (append_assoc past (x ∷ []) ss)

-- entries of other starts
each-other : (c b : ℕ) (h : History) → list_any (λ e. is_entry_of c b e.1) h ≡ false → Each (λ e. (is_entry_of c b e.1 ≡ false) ⊎ ((q : ℕ) × (e ≡ (q, entry.Loss c b [])))) h
each-other c b [] n = tt
each-other c b (e ∷ h) n = go (is_entry_of c b e.1) refl n (each-other c b h)
  where
    go : (z : Bool) → is_entry_of c b e.1 ≡ z → (z || list_any (λ x. is_entry_of c b x.1) h) ≡ false
        → (list_any (λ x. is_entry_of c b x.1) h ≡ false → Each (λ e. (is_entry_of c b e.1 ≡ false) ⊎ ((q : ℕ) × (e ≡ (q, entry.Loss c b [])))) h) → Each (λ e. (is_entry_of c b e.1 ≡ false) ⊎ ((q : ℕ) × (e ≡ (q, entry.Loss c b [])))) (e ∷ h)
    go true q m more = absurd (true≢false m)
    go false q m more = (inl q, more m)

abbrev loss : ℕ → ℕ → ℕ → E
loss c q n = (q, entry.Loss c n [])

module _ (base : Base) (most : ℕ) where
  record So (past : List Shown) : Type 0 where
    moved : IsMoved base (place past) (own-from [] past)
    legal : IsLegal base most (own-from [] past)

  so-nil : So []
  so-nil = record { moved = moved-none base []; legal = tt }

  -- a line whose entry comes last
  grow : (past : List Shown) (s : Shown) (e : E) → place (past ++ s ∷ []) ≡ place past ++ e ∷ [] → own-entries past s ≡ e ∷ [] → So past → IsLegal base most (place (past ++ s ∷ [])) → So (past ++ s ∷ [])
  grow past s e q r so t =
      let now : own-from [] (past ++ s ∷ []) ≡ own-from [] past ++ e ∷ [] = own-step [] past s ∙ ap (λ z. own-from [] past ++ z) r in
      let next : IsLegalNext base most (place past) e = (legal-split base most (place past) (e ∷ []) (subst (IsLegal base most) q t)).1.0 in
      record {
        moved = subst (λ z. IsMoved base z (own-from [] (past ++ s ∷ []))) (sym q) (subst (IsMoved base (place past ++ e ∷ [])) (sym now) (moved-next base (place past) (own-from [] past) e so.moved));
        legal = subst (IsLegal base most) (sym now) (legal-step base most (own-from [] past) e so.legal (legal-moved base most (place past) (own-from [] past) so.moved e next));
      }

  -- one that gives none
  still : (past : List Shown) (s : Shown) → place (past ++ s ∷ []) ≡ place past → own-entries past s ≡ [] → So past → So (past ++ s ∷ [])
  still past s q r so =
      let now : own-from [] (past ++ s ∷ []) ≡ own-from [] past = own-step [] past s ∙ ap (λ z. own-from [] past ++ z) r ∙ append-nil (own-from [] past) in
      record {
        moved = subst (λ z. IsMoved base z (own-from [] (past ++ s ∷ []))) (sym q) (subst (IsMoved base (place past)) (sym now) so.moved);
        legal = subst (IsLegal base most) (sym now) so.legal;
      }

  -- A late answer moves behind all that stands behind its start's loss.
  module _ (past : List Shown) (l c : ℕ) (cl : Call) (a : Answer) (so : So past) where
    abbrev line : Shown
    line = Answered l c cl a None

    abbrev b : ℕ
    b = (begun (watch c past)).starts

    abbrev from : ℕ
    from = last_place c b unwatched 1 0 (before_line l past)

    abbrev e : E
    e = (length past + 1, entry.Call c b l from cl a None)

    joined : (h ys : History) → (h ++ call_entry past line) ++ ys ≡ h ++ e ∷ ys
    joined h ys = append_assoc h (e ∷ []) ys

    late-so : IsBare cl a None → (watch c past).untold ≡ Some [] → IsLegal base most (place (past ++ line ∷ [])) → So (past ++ line ∷ [])
    late-so k u t =
        let w = place-late past c [] u in
        let h = w.0 in
        let q = w.1 in
        let rest = w.2 in
        let starts : (watch c past).starts ≡ b = sym (ap (λ x. x.starts) (untold-runs c past [] u).2) in
        let ys : History = (q, entry.Loss c (watch c past).starts []) ∷ rest in
        let was : place past ≡ h ++ ys = w.3 in
        let is : place (past ++ line ∷ []) ≡ h ++ e ∷ ys = w.5 l cl a None ∙ joined h ys in
        let passes : Each (λ x. (is_entry_of c b x.1 ≡ false) ⊎ ((j : ℕ) × (x ≡ (j, entry.Loss c b [])))) ys = (inr (q, ap (loss c q) starts), each-other c b rest (subst (λ z. list_any (λ x. is_entry_of c z x.1) rest ≡ false) starts w.4)) in
        let now : own-from [] (past ++ line ∷ []) ≡ own-from [] past ++ e ∷ [] = own-step [] past line in
        let far : IsMoved base (h ++ e ∷ ys) (place past ++ e ∷ []) = subst (λ z. IsMoved base (h ++ e ∷ ys) (z ++ e ∷ [])) (sym was) (bare.moved-behind base (length past + 1) c b l from cl a k h ys passes) in
        let next : IsLegalNext base most (place past) e =
        subst (λ z. IsLegalNext base most z e) (sym was)
        (bare.legal-behind base (length past + 1) c b l from cl a k most h ys passes (throughout-back (IsLegalNext base most) [] h (e ∷ ys) (subst (IsLegal base most) is t)))
        in
        record {
          moved = subst (λ z. IsMoved base z (own-from [] (past ++ line ∷ []))) (sym is) (subst (IsMoved base (h ++ e ∷ ys)) (sym now)
              (moved-on base (h ++ e ∷ ys) (place past ++ e ∷ []) (own-from [] past ++ e ∷ []) far (moved-next base (place past) (own-from [] past) e so.moved)));
          legal = subst (IsLegal base most) (sym now) (legal-step base most (own-from [] past) e so.legal (legal-moved base most (place past) (own-from [] past) so.moved e next));
        }

  answer-so : (past : List Shown) (l c : ℕ) (cl : Call) (a : Answer) (op : Option ℕ) → So past → IsTimely past (Answered l c cl a op) → IsLegal base most (place (past ++ Answered l c cl a op ∷ [])) → So (past ++ Answered l c cl a op ∷ [])
  answer-so past l c cl a op so n t = go (watch c past).untold refl
    where
      go : (o : Option (List ℕ)) → (watch c past).untold ≡ o → So (past ++ Answered l c cl a op ∷ [])
      go None u = grow past (Answered l c cl a op) (length past + 1, entry.Call c (begun (watch c past)).starts l (last_place c (begun (watch c past)).starts unwatched 1 0 (before_line l past)) cl a op) (place-answer past l c cl a op u) refl so t
      go (Some ns) u =
          let k = n ns u in
          let q = (k.0).issues in
          subst (λ o. So (past ++ Answered l c cl a o ∷ [])) (sym q)
          (late-so past l c cl a so (subst (IsBare cl a) q k.0) (u ∙ ap (λ z. Some z) k.1) (subst (λ o. IsLegal base most (place (past ++ Answered l c cl a o ∷ []))) q t))

  next : (past : List Shown) (s : Shown) → So past → IsTimely past s → IsLegal base most (place (past ++ s ∷ [])) → So (past ++ s ∷ [])
  next past (Answered l c cl a op) so n t = answer-so past l c cl a op so n t
  next past (Ended c ns) so n t = grow past (Ended c ns) (length past + 1, entry.Loss c (or_zero (owner (watch c past))) ns) (place-ended past c ns) refl so t
  next past s so n t = still past s (place-other past s (λ c b w. refl)) refl so

  all : (past rest : List Shown) → So past → AreTimely past rest → ((front more : List Shown) → front ++ more ≡ past ++ rest → IsLegal base most (place front)) → So (past ++ rest)
  all past [] so t f = subst So (sym (append-nil past)) so
  all past (s ∷ rest) so t f =
      subst So (append_assoc past (s ∷ []) rest)
      (all (past ++ s ∷ []) rest (next past s so t.0 (f (past ++ s ∷ []) rest (append_assoc past (s ∷ []) rest))) t.1 (λ front more q. f front more (q ∙ append_assoc past (s ∷ []) rest)))

-- A loss names no operation of a late answer, since those have none.

late-ops : (c : ℕ) (pre post rest : List Shown) (ns : List ℕ) → is_running (watch c pre) (owner (watch c pre)) ≡ true → list_any (is_end_of c) post ≡ false → AreTimely (pre ++ Ended c ns ∷ post) rest
    → ops_in (late c (pre ++ Ended c ns ∷ post) rest) ≡ []
late-ops c pre post [] ns r n t = refl
late-ops c pre post (s ∷ rest) ns r n t = by (late-ops c pre (post ++ s ∷ []) rest ns r) (is_end_of c s) refl
  where
    past : List Shown
    past = pre ++ Ended c ns ∷ post

    step : (list_any (is_end_of c) (post ++ s ∷ []) ≡ false → AreTimely (pre ++ Ended c ns ∷ (post ++ s ∷ [])) rest → ops_in (late c (pre ++ Ended c ns ∷ (post ++ s ∷ [])) rest) ≡ [])
        → list_any (is_end_of c) (post ++ s ∷ []) ≡ false → ops_in (late c (past ++ s ∷ []) rest) ≡ []
    step more m = subst (λ z. AreTimely z rest → ops_in (late c z rest) ≡ []) (sym (append_assoc pre (Ended c ns ∷ post) (s ∷ []))) (more m) t.1

    own : (x : Shown) → IsTimely past x → (z : Bool) → is_call_of c x ≡ z → ops_in (cond z (call_entry past x) []) ≡ []
    own x u false q = refl
    own (Answered l d cl a op) u true q = call (watch d past).untold refl
      where
        held : is_some (watch c past).untold ≡ true
        held = (still-held c pre post ns r n).untold

        same : c ≡ d
        same = equal c d q

        call : (o : Option (List ℕ)) → (watch d past).untold ≡ o → listed op ++ [] ≡ []
        call None v = absurd (true≢false (sym held ∙ ap (λ z. is_some (watch z past).untold) same ∙ ap is_some v))
        call (Some ms) v = ap (λ o. listed o ++ []) (u ms v).0.issues
    own x u true q = absurd (true≢false (sym q))

    by : (list_any (is_end_of c) (post ++ s ∷ []) ≡ false → AreTimely (pre ++ Ended c ns ∷ (post ++ s ∷ [])) rest → ops_in (late c (pre ++ Ended c ns ∷ (post ++ s ∷ [])) rest) ≡ [])
        → (z : Bool) → is_end_of c s ≡ z → ops_in (cond z [] (cond (is_call_of c s) (call_entry past s) [] ++ late c (past ++ s ∷ []) rest)) ≡ []
    by more true q = refl
    by more false q =
        ops_in-append (cond (is_call_of c s) (call_entry past s) []) (late c (past ++ s ∷ []) rest)
        ∙ ap (λ z. z ++ ops_in (late c (past ++ s ∷ []) rest)) (own s t.0 (is_call_of c s) refl)
        ∙ step more (none post n)
      where
        none : (xs : List Shown) → list_any (is_end_of c) xs ≡ false → list_any (is_end_of c) (xs ++ s ∷ []) ≡ false
        none [] m = ap (λ z. z || false) q
        none (x ∷ xs) m = ends (is_end_of c x) refl m (none xs)
          where
            ends : (z : Bool) → is_end_of c x ≡ z → (z || list_any (is_end_of c) xs) ≡ false → (list_any (is_end_of c) xs ≡ false → list_any (is_end_of c) (xs ++ s ∷ []) ≡ false) → (is_end_of c x || list_any (is_end_of c) (xs ++ s ∷ [])) ≡ false
            ends true f m more = absurd (true≢false m)
            ends false f m more = ap (λ z. z || list_any (is_end_of c) (xs ++ s ∷ [])) f ∙ more m

printed-own : (past ss : List Shown) → AreTimely past ss → printed_from past ss ≡ own-from past ss
printed-own past [] t = refl
printed-own past (Ended c ns ∷ rest) t =
    ap (λ z. ((length past + 1, entry.Loss c (or_zero (owner (watch c past))) z) ∷ []) ++ printed_from (past ++ Ended c ns ∷ []) rest) (names (is_running (watch c past) (owner (watch c past))) refl)
    ∙ ap (λ z. own-entries past (Ended c ns) ++ z) (printed-own (past ++ Ended c ns ∷ []) rest t.1)
  where
    names : (z : Bool) → is_running (watch c past) (owner (watch c past)) ≡ z → ns ++ ops_in (cond z (late c (past ++ Ended c ns ∷ []) rest) []) ≡ ns
    names true r = ap (λ z. ns ++ z) (late-ops c past [] rest ns r refl t.1) ∙ append-nil ns
    names false r = append-nil ns
printed-own past (s ∷ rest) t = ap (λ z. own-entries past s ++ z) (printed-own (past ++ s ∷ []) rest t.1)

pub timely-legal : TimelyAreLegal
timely-legal base most ss t f = subst (IsLegal base most) (sym (printed-own [] ss t)) (all base most [] ss (so-nil base most) t f).legal
