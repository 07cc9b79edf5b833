-- What is kept of a history is sound, fits and leaves a well-formed volume.
use Rattle.std.proofs.Common.{◌≡◌, ◌≢◌, refl, sym, subst, arith, ◌≤◌, ℕ, T, Bool, true, false, not, ◌||◌, cond, List, [], ◌∷◌, ◌++◌, eqb, length, Option, Some, None, append-nil, append_assoc}
use Rattle.std.specs.List.{filter, list_all, list_any}
use Rattle.ec_volume.specs.Image.{is_gone}
use Rattle.ec_volume.specs.Update.{operands, has_operand, fits, member, distinct, is_sound}
use Rattle.ec_volume.specs.Volume.{Images, after, image_after, image_next, Fits, WellFormed, AllReached}
use Rattle.ec_volume.specs.declared.image.Image.{Image}
use Rattle.ec_volume.specs.declared.update.Update.{Update}
use Rattle.ec_plain.specs.Plain.{plain}
use Rattle.ec_plain.specs.BoundedCalls.{is_bounded}
use Rattle.ec_plain.specs.declared.call.Call.{Call}
use Rattle.ec_history.specs.History.{Base, History, Op, Throughout, Each, updates, of_start, is_one_of, is_entry_of, kept, kept_next, issued_by, outcome, without, touched}
use Rattle.ec_history.specs.Legal.{IsLegal, IsLegalNext, is_closed}
use Rattle.ec_history.specs.Placing.{place}
use Rattle.ec_history.specs.declared.entry.Answer.{Answer}
use Rattle.ec_history.specs.declared.entry.Entry.{Entry}
use Rattle.ec_history.specs.declared.entry.Entry.TheVariants as entry
use Rattle.ec_history.specs.declared.shown.Shown.{Shown}
use Rattle.ec_history.specs.OfLaws.Needs.{holds_needed}
use Rattle.ec_history.proofs.OfLaws.ForPlacing.More.{kept-step}
use Rattle.ec_history.proofs.OfLaws.ForPlacing.Objects.{fits-next}
use Rattle.ec_history.proofs.OfLaws.ForPlacing.Removed.{removal}
use Rattle.ec_history.proofs.OfLaws.ForPlacing.Pulled.{pulled-fit_alone}
use Rattle.ec_history.proofs.OfLaws.ForPlacing.Places.{places-within, places-distinct, places}
use Rattle.ec_history.proofs.OfLaws.ForPlacing.Left.{loss-fits, updates-next}
use Rattle.ec_history.specs.OfLaws.Bases.{IsBase, AllHeld, AreAtLines, LeaveWellFormed, is_bounded_entry}
use Rattle.ec_history.proofs.OfLaws.ForFormed.Fresh.{makes, gone-stays, plain-makes}
use Rattle.ec_base.proofs.Bools.{both, first as left, right, on as holds}
use Rattle.ec_history.proofs.OfLaws.ForPlacing.BasesAlike.{each-map}

-- Lists.

each-filter : {A : Type 0} (P : A → Type 0) (q : A → Bool) (xs : List A) → Each P xs → Each P (filter q xs)
each-filter P q [] h = tt
each-filter P q (x ∷ xs) h = elim (q x) as (λ b. Each P (cond b (x ∷ filter q xs) (filter q xs))) [ true ↦ (h.0, each-filter P q xs h.1) | false ↦ each-filter P q xs h.1 ]

each-last : {A : Type 0} (P : A → Type 0) (xs : List A) (x : A) → Each P xs → P x → Each P (xs ++ x ∷ [])
each-last P [] x h p = (p, tt)
each-last P (y ∷ xs) x h p = (h.0, each-last P xs x h.1 p)

all-filter : (q : Op → Bool) (ks : List Op) → T (list_all is_sound (updates ks)) → T (list_all is_sound (updates (filter q ks)))
all-filter q [] h = tt
all-filter q (k ∷ ks) h =
    elim (q k) as (λ b. T (list_all is_sound (updates (cond b (k ∷ filter q ks) (filter q ks))))) [
      | true ↦ both (is_sound k.update) _ (left (is_sound k.update) _ h) (all-filter q ks (right (is_sound k.update) _ h))
      | false ↦ all-filter q ks (right (is_sound k.update) _ h)
    ]

all-last : (ks : List Op) (k : Op) → T (list_all is_sound (updates ks)) → T (is_sound k.update) → T (list_all is_sound (updates (ks ++ k ∷ [])))
all-last [] k h s = both (is_sound k.update) true s tt
all-last (j ∷ ks) k h s = both (is_sound j.update) _ (left (is_sound j.update) _ h) (all-last ks k (right (is_sound j.update) _ h) s)

self : (n : ℕ) → T (eqb n n)
self n = holds (same n)
  where
    same : (m : ℕ) → eqb m m ≡ true
    same m = grind arith

-- not among others, and so not the first one, and not among the rest
not-first : (p q : ℕ) (ps : List ℕ) → T (not (member p (q ∷ ps))) → p ≢ q
not-first p q ps h e = go (eqb p q) h (subst (λ x. T (eqb p x)) e (self p))
  where
    go : (b : Bool) → T (not (b || member p ps)) → T b → ⊥
    go true h t = h
    go false h t = t

not-rest : (p q : ℕ) (ps : List ℕ) → T (not (member p (q ∷ ps))) → T (not (member p ps))
not-rest p q ps h = go (eqb p q) h
  where
    go : (b : Bool) → T (not (b || member p ps)) → T (not (member p ps))
    go true h = absurd h
    go false h = h

gone-after : (o : ℕ) (i : Image) (ks : List Op) → T (is_gone i) → Each (λ k. makes k.update ≡ Some o → ⊥) ks → T (is_gone (image_after o i (updates ks)))
gone-after o i [] g h = g
gone-after o i (k ∷ ks) g h = gone-after o (image_next o i k.update) ks (gone-stays o i k.update g h.0) h.1

-- where Q holds behind each entry, it holds of the whole
whole-of : (Q : History → Type 0) (past h : History) → Q past → Throughout (λ g e. Q (g ++ e ∷ [])) past h → Q (past ++ h)
whole-of Q past [] q t = subst Q (sym (append-nil past)) q
whole-of Q past (e ∷ h) q t = subst Q (append_assoc past (e ∷ []) h) (whole-of Q (past ++ e ∷ []) h t.0 t.1)

-- Over the laws of updates and of calls.
module _ (formed : (v : Images) (us : List Update) → WellFormed v → T (list_all is_sound us) → Fits v us → WellFormed (after v us))
    (reached : (v : Images) (us : List Update) → WellFormed v → AllReached v → T (list_all is_sound us) → Fits v us → AllReached (after v us))
    (sound : (v : Images) (cl : Call) (fresh : ℕ) (u : Update) → WellFormed v → T (is_gone (v fresh)) → T (is_bounded cl) → (plain v cl fresh).update ≡ Some u → T (is_sound u))
    (fitting : (v : Images) (cl : Call) (fresh : ℕ) (u : Update) → WellFormed v → T (is_gone (v fresh)) → (plain v cl fresh).update ≡ Some u → Fits v (u ∷ []))
    (within : (v : Images) (us : List Update) → AllHeld v → T (list_all is_sound us) → Fits v us → AllHeld (after v us))
    (base : Base) (is : IsBase base) where
  leave : (ks : List Op) → T (list_all is_sound (updates ks)) → Fits base.volume (updates ks) → LeaveWellFormed base ks
  leave ks s f = record { sound = s; fits = f; formed = formed base.volume (updates ks) is.formed s f; reached = λ r. reached base.volume (updates ks) is.formed r s f; held = λ h. within base.volume (updates ks) h s f }

  pub part : (inside : Op → Bool) (ks : List Op) → LeaveWellFormed base ks → T (holds_needed (λ k. k.update) inside ks) → LeaveWellFormed base (filter inside ks)
  part inside ks l h = leave (filter inside ks) (all-filter inside ks l.sound) (pulled-fit_alone (λ k. k.update) base.volume inside ks h l.fits)

  pub rest : (lost : Op → Bool) (ks : List Op) → LeaveWellFormed base ks → T (is_closed lost ks) → LeaveWellFormed base (filter (λ k. not (lost k)) ks)
  rest lost ks l h = leave (filter (λ k. not (lost k)) ks) (all-filter (λ k. not (lost k)) ks l.sound) (removal base.volume lost ks h l.fits)

  -- Its place is none of these entries', and it makes no object but the fresh one of its place.
  abbrev Stands : History → Op → Type 0
  Stands h k = T (not (member k.place (places h))) × ((o : ℕ) → makes k.update ≡ Some o → o ≡ base.fresh k.place)

  stands-next : (e : ℕ × Entry) (h : History) (ks : List Op) → Each (Stands (e ∷ h)) ks → Each (Stands h) ks
  stands-next e h ks s = each-map (Stands (e ∷ h)) (Stands h) (λ k x. (not-rest k.place e.0 (places h) x.0, x.1)) ks s

  -- so the fresh one of the next place is gone
  fresh-gone : (e : ℕ × Entry) (h : History) (ks : List Op) → Each (Stands (e ∷ h)) ks → 1 ≤ e.0 → T (is_gone (after base.volume (updates ks) (base.fresh e.0)))
  fresh-gone e h ks s l =
      gone-after (base.fresh e.0) (base.volume (base.fresh e.0)) ks (is.gone e.0 l)
      (each-map (Stands (e ∷ h)) (λ k. makes k.update ≡ Some (base.fresh e.0) → ⊥) (λ k x m. not-first k.place e.0 (places h) x.0 (is.apart k.place e.0 (sym (x.1 (base.fresh e.0) m)))) ks s)

  abbrev Both : History → List Op → Type 0
  Both h ks = LeaveWellFormed base ks × Each (Stands h) ks

  -- one more call
  call-next : (h : History) (ks : List Op) (p c b l g : ℕ) (cl : Call) (a : Answer) (op : Option ℕ) → LeaveWellFormed base ks → Each (Stands h) ks
      → T (is_gone (after base.volume (updates ks) (base.fresh p))) → T (not (member p (places h))) → T (is_bounded cl) → Both h (ks ++ issued_by base ks (p, entry.Call c b l g cl a op))
  call-next h ks p c b l g cl a None w s gone apart bounded = subst (λ js. LeaveWellFormed base js × Each (Stands h) js) (sym (append-nil ks)) (w, s)
  call-next h ks p c b l g cl a (Some n) w s gone apart bounded = go ((outcome base ks p cl).update) refl
    where
      go : (x : Option Update) → (outcome base ks p cl).update ≡ x
          → LeaveWellFormed base (ks ++ elim x [ None ↦ [] | Some u ↦ record { clerk = c; boot = b; number = n; place = p; update = u } ∷ [] ])
          × Each (Stands h) (ks ++ elim x [ None ↦ [] | Some u ↦ record { clerk = c; boot = b; number = n; place = p; update = u } ∷ [] ])
      go None q = subst (λ js. LeaveWellFormed base js × Each (Stands h) js) (sym (append-nil ks)) (w, s)
      go (Some u) q =
          let k : Op = record { clerk = c; boot = b; number = n; place = p; update = u } in
          let one : Fits (after base.volume (updates ks)) (u ∷ []) = fitting (after base.volume (updates ks)) cl (base.fresh p) u w.formed gone q in
          let behind : Fits base.volume (updates (ks ++ k ∷ [])) =
          subst (Fits base.volume) (sym (updates-next ks k)) (fits-next base.volume (updates ks) u w.fits (λ o. left (not (has_operand o u) || fits u o (after base.volume (updates ks) o)) _ (one o))) in (
            leave (ks ++ k ∷ []) (all-last ks k w.sound (sound (after base.volume (updates ks)) cl (base.fresh p) u w.formed gone bounded q)) behind,
            each-last (Stands h) ks k s (apart, λ o m. plain-makes (base.fresh p) (after base.volume (updates ks)) cl u q o m),
          )

  next : (most : ℕ) (past : History) (e : ℕ × Entry) (h : History) → LeaveWellFormed base (kept base past) → Each (Stands (e ∷ h)) (kept base past) → 1 ≤ e.0 → T (not (member e.0 (places h))) → T (is_bounded_entry e.1) → IsLegalNext base most past e
      → Both h (kept_next base (kept base past) e)
  next most past (p, entry.Call c b l g cl a op) h w s one apart bounded legal =
      call-next h (kept base past) p c b l g cl a op w (stands-next (p, entry.Call c b l g cl a op) h (kept base past) s) (fresh-gone (p, entry.Call c b l g cl a op) h (kept base past) s one) apart bounded
  next most past (p, entry.Loss c b ns) h w s one apart bounded legal = (
    leave (without c b ns (kept base past)) (all-filter (λ k. not (is_one_of c b ns k)) (kept base past) w.sound) legal.fits,
    each-filter (Stands h) (λ k. not (is_one_of c b ns k)) (kept base past) (stands-next (p, entry.Loss c b ns) h (kept base past) s),
  )

  from : (most : ℕ) (past h : History) → LeaveWellFormed base (kept base past) → Each (Stands h) (kept base past) → Each (λ p. 1 ≤ p) (places h) → T (distinct (places h)) → T (list_all (λ e. is_bounded_entry e.1) h)
      → Throughout (IsLegalNext base most) past h → Throughout (λ past e. LeaveWellFormed base (kept base (past ++ e ∷ []))) past h
  from most past [] w s one apart bounded legal = tt
  from most past (e ∷ h) w s one apart bounded legal =
      let behind = next most past e h w s one.0 (left (not (member e.0 (places h))) _ apart) (left (is_bounded_entry e.1) _ bounded) legal.0 in
      let same : kept_next base (kept base past) e ≡ kept base (past ++ e ∷ []) = sym (kept-step base past e) in
      let w' : LeaveWellFormed base (kept base (past ++ e ∷ [])) = subst (LeaveWellFormed base) same behind.0 in
      (w', from most (past ++ e ∷ []) h w' (subst (Each (Stands h)) same behind.1) one.1 (right (not (member e.0 (places h))) _ apart) (right (is_bounded_entry e.1) _ bounded) legal.1)

  next-gone : (most : ℕ) (past h : History) (e : ℕ × Entry) → LeaveWellFormed base (kept base past) → Each (Stands (h ++ e ∷ [])) (kept base past) → Each (λ p. 1 ≤ p) (places (h ++ e ∷ [])) → T (distinct (places (h ++ e ∷ [])))
      → T (list_all (λ x. is_bounded_entry x.1) (h ++ e ∷ [])) → Throughout (IsLegalNext base most) past h → T (is_gone (after base.volume (updates (kept base (past ++ h))) (base.fresh e.0)))
  next-gone most past [] e w s one apart bounded legal =
      subst (λ g. T (is_gone (after base.volume (updates (kept base g)) (base.fresh e.0)))) (sym (append-nil past)) (fresh-gone e [] (kept base past) s one.0)
  next-gone most past (x ∷ h) e w s one apart bounded legal =
      let behind = next most past x (h ++ e ∷ []) w s one.0 (left (not (member x.0 (places (h ++ e ∷ [])))) _ apart) (left (is_bounded_entry x.1) _ bounded) legal.0 in
      let same : kept_next base (kept base past) x ≡ kept base (past ++ x ∷ []) = sym (kept-step base past x) in
      subst (λ g. T (is_gone (after base.volume (updates (kept base g)) (base.fresh e.0)))) (append_assoc past (x ∷ []) h)
      (next-gone most (past ++ x ∷ []) h e (subst (LeaveWellFormed base) same behind.0) (subst (Each (Stands (h ++ e ∷ []))) same behind.1) one.1 (right (not (member x.0 (places (h ++ e ∷ [])))) _ apart) (right (is_bounded_entry x.1) _ bounded) legal.1)

  nothing : LeaveWellFormed base []
  nothing = leave [] tt (λ o. tt)

  pub throughout : (most : ℕ) (h : History) → AreAtLines h → IsLegal base most h → Throughout (λ past e. LeaveWellFormed base (kept base (past ++ e ∷ []))) [] h
  throughout most h lines legal = from most [] h nothing tt lines.from_one lines.apart lines.bounded legal

  pub gone : (most : ℕ) (h : History) (e : ℕ × Entry) → AreAtLines (h ++ e ∷ []) → IsLegal base most h → T (is_gone (after base.volume (updates (kept base h)) (base.fresh e.0)))
  gone most h e lines legal = next-gone most [] h e nothing tt lines.from_one lines.apart lines.bounded legal

  pub whole : (most : ℕ) (h : History) → AreAtLines h → IsLegal base most h → LeaveWellFormed base (kept base h)
  whole most h lines legal = whole-of (λ g. LeaveWellFormed base (kept base g)) [] h nothing (throughout most h lines legal)

  pub placed : (most : ℕ) (ss : List Shown) → T (list_all (λ e. is_bounded_entry e.1) (place ss)) → IsLegal base most (place ss) → LeaveWellFormed base (kept base (place ss))
  placed most ss bounded legal =
      let lines : AreAtLines (place ss) = record {
        from_one = each-map (λ p. (1 ≤ p) × (p ≤ length ss)) (λ p. 1 ≤ p) (λ p x. x.0) (places (place ss)) (places-within ss);
        apart = places-distinct ss;
        bounded = bounded;
      } in
      whole most (place ss) lines legal

  pub untouched : (most c b : ℕ) (ns : List ℕ) (past : History) → AreAtLines past → IsLegal base most past → T (is_closed (is_one_of c b ns) (filter (of_start c b) (kept base past)))
      → Throughout (λ h e. is_entry_of c b e.1 ≡ false → T (list_all (λ k. not (list_any (λ o. member o (touched base (kept base h) e)) (operands k.update))) (filter (is_one_of c b ns) (kept base h)))) [] past
      → LeaveWellFormed base (without c b ns (kept base past))
  untouched most c b ns past lines legal closed un =
      let w : LeaveWellFormed base (kept base past) = whole most past lines legal in
      leave (without c b ns (kept base past)) (all-filter (λ k. not (is_one_of c b ns k)) (kept base past) w.sound) (loss-fits base c b ns past w.fits closed un)
