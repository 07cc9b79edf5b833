-- Histories, entry by entry.
use Rattle.std.proofs.Common.{◌≡◌, refl, sym, ap, subst, ◌∙◌, arith, ◌<◌, ◌≤◌, ◌+◌, ℕ, suc, zero, T, Bool, true, false, not, List, [], ◌∷◌, ◌++◌, length, take, drop, get_or, Some, None, append_assoc, add-one, drop-cons, length-append}
use Rattle.std.specs.Prelude.{nat_lt, ◌==◌, ◌||◌}
use Rattle.std.proofs.lemmas.Bool.Decides.{nat_tests}
use Rattle.ec_plain.specs.declared.call.Outcome.{Outcome}
use Rattle.std.specs.Ordering.{nat_cmp}
use Rattle.std.specs.FinMap.{is_sorted}
use Rattle.std.specs.List.{list_all}
use Rattle.std.proofs.lemmas.List.{take_more, take-append-drop, length-take-le}
use Rattle.ec_volume.specs.Image.{is_gone}
use Rattle.ec_volume.specs.Update.{distinct, member, is_sound}
use Rattle.ec_volume.specs.Volume.{after, formatted, Fits, WellFormed}
use Rattle.ec_pending.specs.OfOverlay.Shown.{shown}
use Rattle.ec_history.specs.OfLaws.Bases.{AreAtLines, LeaveWellFormed, is_bounded_entry}
use Rattle.ec_history.proofs.OfLaws.ForFormed.Bases.{base-formatted}
use Rattle.ec_history.proofs.OfLaws.ForFormed.KeptFormed.{kept-formed, kept-held}
use Rattle.ec_history.proofs.OfLaws.ForFormed.Laws.{kept-reached, call-sound, call-fits}
use Rattle.ec_history.proofs.OfLaws.ForFormed.Keeping.{whole, gone}
use Rattle.ec_history.specs.History.{History, Throughout, Each, updates, of_issue, kept, outcome}
use Rattle.ec_history.specs.Legal.{IsFull, IsLegal, IsLegalNext, from_formatted}
use Rattle.ec_history.specs.declared.entry.Answer.{Answer}
use Rattle.ec_history.specs.declared.entry.Answer.TheVariants as answer
use Rattle.ec_history.specs.declared.entry.Entry.{Entry}
use Rattle.ec_history.specs.declared.entry.Entry.TheVariants as entry
use Rattle.ec_history.specs.declared.rule.Rule.{Rule}
use Rattle.ec_history.proofs.OfLaws.ForPlacing.Cuts.{legal-step}
use Rattle.ec_history.proofs.OfLaws.ForPlacing.Numbers.{each-front}
use Rattle.ec_judge.specs.declared.carried.Judge.{Judge}
use Rattle.ec_judge.specs.Faults.{IsFirstEntry}
use Rattle.ec_judge.specs.Carried.{Carries, EntryIsReady, Judges}
use Rattle.ec_history.proofs.OfLaws.Issues.{kept-sorted}
use Rattle.ec_base.proofs.Bools.{both, first as left, right, on as holds}
use Rattle.ec_history.proofs.OfLaws.ForPlacing.Places.{places}
use Rattle.ec_volume.proofs.VolumeLemmas.{all-same}

pub places-append : (h g : History) → places (h ++ g) ≡ places h ++ places g
places-append [] g = refl
places-append (e ∷ h) g = ap (λ l. e.0 ∷ l) (places-append h g)

pub member-more : (n : ℕ) (xs ys : List ℕ) → T (not (member n (xs ++ ys))) → T (not (member n xs))
member-more n [] ys t = tt
member-more n (x ∷ xs) ys t = go (n == x) t (member-more n xs ys)
  where
    go : (b : Bool) → T (not (b || member n (xs ++ ys))) → (T (not (member n (xs ++ ys))) → T (not (member n xs))) → T (not (b || member n xs))
    go true t f = absurd t
    go false t f = f t

pub distinct-front : (xs ys : List ℕ) → T (distinct (xs ++ ys)) → T (distinct xs)
distinct-front [] ys t = tt
distinct-front (x ∷ xs) ys t = both (not (member x xs)) _ (member-more x xs ys (left (not (member x (xs ++ ys))) _ t)) (distinct-front xs ys (right (not (member x (xs ++ ys))) _ t))

pub all-front : (h g : History) → T (list_all (λ e. is_bounded_entry e.1) (h ++ g)) → T (list_all (λ e. is_bounded_entry e.1) h)
all-front [] g t = tt
all-front (e ∷ h) g t = both (is_bounded_entry e.1) _ (left (is_bounded_entry e.1) _ t) (all-front h g (right (is_bounded_entry e.1) _ t))

all-last : (h : History) (e : ℕ × Entry) → T (list_all (λ e. is_bounded_entry e.1) (h ++ e ∷ [])) → T (is_bounded_entry e.1)
all-last [] e t = left (is_bounded_entry e.1) true t
all-last (x ∷ h) e t = all-last h e (right (is_bounded_entry x.1) _ t)

pub lines-front : (h g : History) → AreAtLines (h ++ g) → AreAtLines h
lines-front h g a = record {
  from_one = each-front (λ p. 1 ≤ p) (places h) (places g) (subst (Each (λ p. 1 ≤ p)) (places-append h g) a.from_one);
  apart = distinct-front (places h) (places g) (subst (λ l. T (distinct l)) (places-append h g) a.apart);
  bounded = all-front h g a.bounded;
}

-- An entry behind a legal history can be judged.
ready : (most : ℕ) (past : History) (e : ℕ × Entry) (j : Judge) → AreAtLines (past ++ e ∷ []) → Carries from_formatted past j → IsLegal from_formatted most past → EntryIsReady j e
ready most past e j lines h legal =
    let w : LeaveWellFormed from_formatted (kept from_formatted past) = whole kept-formed kept-reached call-sound call-fits kept-held from_formatted base-formatted most past (lines-front past (e ∷ []) lines) legal in
    let same : after from_formatted.volume (updates (kept from_formatted past)) ≡ shown j.firm.volume = sym (all-same (shown j.firm.volume) (after from_formatted.volume (updates (kept from_formatted past))) h.volume) in
    record {
      formed = subst WellFormed same w.formed;
      gone = subst (λ v. T (is_gone (v (1 + e.0)))) same (gone kept-formed kept-reached call-sound call-fits kept-held from_formatted base-formatted most past e lines legal);
      bounded = all-last past e lines.bounded;
      sound = subst (λ ks. T (list_all is_sound (updates ks))) (sym h.kept) w.sound;
      whole = record {
        fits = subst (λ ks. Fits formatted (updates ks)) (sym h.kept) w.fits;
        shown = λ o. h.volume o ∙ ap (λ ks. after formatted (updates ks) o) (sym h.kept);
        firm = h.firm;
        laid = h.laid;
      };
      rising = λ c b. subst (λ ks. T (is_sorted nat_cmp (of_issue c b ks))) (sym h.kept) (kept-sorted from_formatted most c b past legal);
    }

-- The entries up to a place, behind a past.
module _ (past es : History) (i : ℕ) (e : ℕ × Entry) (within : i < length es) (is : e ≡ get_or es i e) where
  pub front-more : past ++ take (i + 1) es ≡ (past ++ take i es) ++ e ∷ []
  front-more = ap (λ l. past ++ l) (take_more es i e within ∙ ap (λ x. take i es ++ x ∷ []) (sym is)) ∙ sym (append_assoc past (take i es) (e ∷ []))

  cut-at : (past ++ take i es) ++ e ∷ drop (i + 1) es ≡ past ++ es
  cut-at = append_assoc past (take i es) (e ∷ drop (i + 1) es) ∙ ap (λ l. past ++ l) (ap (λ l. take i es ++ l) (sym (drop-cons es i e within ∙ ap (λ x. x ∷ drop (suc i) es) (sym is) ∙ ap (λ n. e ∷ drop n es) (sym (add-one i)))) ∙ take-append-drop i es)

  lines-at : AreAtLines (past ++ es) → AreAtLines ((past ++ take i es) ++ e ∷ [])
  lines-at a = lines-front ((past ++ take i es) ++ e ∷ []) (drop (i + 1) es) (subst AreAtLines (sym (append_assoc (past ++ take i es) (e ∷ []) (drop (i + 1) es) ∙ cut-at)) a)

  turn-at : (n : ℕ) → n ≡ length past → n + i ≡ length (past ++ take i es)
  turn-at n k = ap (λ m. m + i) k ∙ ap (λ m. length past + m) (sym (length-take-le i es (omega (arith, within)))) ∙ sym (length-append past (take i es))

  pub ready-at : (most : ℕ) (j : Judge) → AreAtLines (past ++ es) → Carries from_formatted (past ++ take i es) j → IsLegal from_formatted most (past ++ take i es) → EntryIsReady j e
  ready-at most j a c l = ready most (past ++ take i es) e j (lines-at a) c l

  pub few-at : Each (λ x. x.0 < 2147483648) es → e.0 < 2147483648
  few-at f = subst (λ x. x.0 < 2147483648) (sym is) (at es i within f)
    where
      at : (g : History) (n : ℕ) → n < length g → Each (λ x. x.0 < 2147483648) g → (get_or g n e).0 < 2147483648
      at [] n l f = absurd (omega (arith, l))
      at (x ∷ g) zero l f = f.0
      at (x ∷ g) (suc n) l f = at g n (omega (arith, l)) f.1

  pub judged-next : (most n : ℕ) (j j' : Judge) → n ≡ length past → Carries from_formatted (past ++ take i es) j → IsLegal from_formatted most (past ++ take i es) → Judges most (n + i) j j' e None
      → Carries from_formatted (past ++ take (i + 1) es) j' × IsLegal from_formatted most (past ++ take (i + 1) es)
  judged-next most n j j' k c l f =
      let both = f (past ++ take i es) (turn-at n k) c l in
      (subst (λ g. Carries from_formatted g j') (sym front-more) both.1, subst (IsLegal from_formatted most) (sym front-more) (legal-step from_formatted most (past ++ take i es) e l both.0))

  pub judged-fault : (most n : ℕ) (j j' : Judge) (r : Rule) → n ≡ length past → Carries from_formatted (past ++ take i es) j → IsLegal from_formatted most (past ++ take i es) → Judges most (n + i) j j' e (Some r)
      → IsFirstEntry from_formatted most (past ++ es) e.0 r
  judged-fault most n j j' r k c l f = record { before = past ++ take i es; its = e.1; after = drop (i + 1) es; parts = cut-at; legal = l; broken = f (past ++ take i es) (turn-at n k) c l }

-- Legal for some greatest number of objects: legal for none.
full-less : (most : ℕ) (out : Outcome) (a : Answer) → IsFull most out a → IsFull 0 out a
full-less most out (answer.NoRoom x y) k = (k.0, holds above)
  where
    above : nat_lt 0 (x + y + 16) ≡ true
    above = grind (arith, nat_tests)
full-less most out (answer.Reply r) k = tt
full-less most out (answer.Lost ns) k = tt

less-from : (most : ℕ) (past h : History) → Throughout (IsLegalNext from_formatted most) past h → Throughout (IsLegalNext from_formatted 0) past h
less-from most past [] t = tt
less-from most past ((p, entry.Call c b l g cl a op) ∷ h) t =
    (record { number = (t.0).number; report = (t.0).report; room = full-less most (outcome from_formatted (kept from_formatted past) p cl) a (t.0).room; reply = (t.0).reply }, less-from most (past ++ (p, entry.Call c b l g cl a op) ∷ []) h t.1)
less-from most past ((p, entry.Loss c b ns) ∷ h) t = (t.0, less-from most (past ++ (p, entry.Loss c b ns) ∷ []) h t.1)

pub legal-less : (most : ℕ) (h : History) → IsLegal from_formatted most h → IsLegal from_formatted 0 h
legal-less most h t = less-from most [] h t
