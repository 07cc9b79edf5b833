-- Where the ids at places that made nothing are changed, the same is kept, issued and owed.
use Rattle.std.proofs.Common.{◌≡◌, refl, sym, ap, ap₂, subst, ◌∙◌, inl, inr, ◌⊎◌, ◌==◌, ◌||◌, ◌&&◌, not, ℕ, Bool, true, false, cond, T, List, [], ◌∷◌, ◌++◌, map, Option, Some, None, append-nil}
use Rattle.std.specs.Prelude.{is_some, nat_le}
use Rattle.std.specs.List.{filter, list_all, list_any}
use Rattle.ec_volume.specs.Update.{has_operand, is_make, member, operands}
use Rattle.ec_volume.specs.Volume.{Images, Fits, after}
use Rattle.ec_volume.specs.declared.update.Update.{Update}
use Rattle.ec_plain.specs.Plain.{issues}
use Rattle.ec_plain.specs.Walk.{At, Not, Reached, walk}
use Rattle.ec_plain.specs.declared.call.Call.{Call}
use Rattle.ec_plain.specs.declared.call.Call.TheVariants as call
use Rattle.ec_plain.specs.declared.call.Reply.TheVariants as reply
use Rattle.ec_plain.specs.declared.call.Outcome.{Outcome}
use Rattle.ec_order.specs.Order.{InClosure}
use Rattle.ec_history.specs.History.{Base, Covers, Each, History, Op, Owed, Throughout, asks, distinct_numbers, due, is_one_of, issued, issued_by, kept, kept_next, meets, numbers, of_issue, of_start, outcome, owed, owed_next, same_start, touched, updates, without}
use Rattle.ec_history.specs.Legal.{IsFull, IsLawful, IsLegal, IsLegalNext, IsReply, IsReported, is_call_of_other, is_closed, is_making, leaves, touches_none}
use Rattle.ec_history.specs.Lines.{AreCovered, IsCovered, IsStored, durable}
use Rattle.ec_history.specs.Placing.{place}
use Rattle.ec_history.specs.declared.entry.Answer.{Answer}
use Rattle.ec_history.specs.declared.entry.Answer.TheVariants as answer
use Rattle.ec_history.specs.declared.entry.Entry.{Entry}
use Rattle.ec_history.specs.declared.entry.Entry.TheVariants as entry
use Rattle.ec_history.specs.declared.shown.Shown.{Shown}
use Rattle.ec_history.proofs.OfLaws.ForPlacing.Cuts.{throughout-append}
use Rattle.ec_history.proofs.OfLaws.ForPlacing.More.{issued-step, kept-step, owed-step}
use Rattle.ec_history.proofs.OfLaws.ForPlacing.Numbers.{each-filter, kept-each}
use Rattle.ec_history.specs.OfLaws.NewIds.{Clear, MayChange}
use Rattle.ec_history.proofs.OfLaws.ForRenamed.CallsAlike.{Like, meets-like, plain-like, touched-like}
use Rattle.ec_history.proofs.OfLaws.ForRenamed.OwedOperands.{IsOff, owed-off, parts, turn}
use Rattle.ec_history.proofs.OfLaws.ForPlacing.BasesAlike.{each-map}

true-false : true ≡ false → ⊥
true-false e = cc

filter-as : {A : Type 0} (p q : A → Bool) (P : A → Type 0) → ((x : A) → P x → p x ≡ q x) → (xs : List A) → Each P xs → filter p xs ≡ filter q xs
filter-as p q P f [] h = refl
filter-as p q P f (x ∷ xs) h = (λ i. cond (f x h.0 i) (x ∷ filter-as p q P f xs h.1 i) (filter-as p q P f xs h.1 i))

all-as : {A : Type 0} (p q : A → Bool) (P : A → Type 0) → ((x : A) → P x → p x ≡ q x) → (xs : List A) → Each P xs → list_all p xs ≡ list_all q xs
all-as p q P f [] h = refl
all-as p q P f (x ∷ xs) h = ap₂ (λ a b. a && b) (f x h.0) (all-as p q P f xs h.1)

any-as : (p q : ℕ → Bool) (P : ℕ → Type 0) → ((x : ℕ) → P x → p x ≡ q x) → (xs : List ℕ) → Each P xs → list_any p xs ≡ list_any q xs
any-as p q P f [] h = refl
any-as p q P f (x ∷ xs) h = ap₂ (λ a b. a || b) (f x h.0) (any-as p q P f xs h.1)

pub both : {A : Type 0} (P Q : A → Type 0) (xs : List A) → Each P xs → Each Q xs → Each (λ x. P x × Q x) xs
both P Q [] p q = tt
both P Q (x ∷ xs) p q = ((p.0, q.0), both P Q xs p.1 q.1)

module _ (v : Images) (f q : ℕ → ℕ) where
  abbrev base : Base
  base = record { volume = v; fresh = f }

  abbrev other : Base
  other = record { volume = v; fresh = q }

  pub record Same (past : History) : Type 0 where
    pub kept : kept other past ≡ kept base past
    pub issued : issued other past ≡ issued base past
    pub owed : (c b : ℕ) → owed other past c b ≡ owed base past c b

  -- One entry.
  module _ (past : History) (p c b l begun : ℕ) (cl : Call) (a : Answer) where
    abbrev ks : List Op
    ks = kept base past

    abbrev o : Outcome
    o = outcome base ks p cl

    abbrev o' : Outcome
    o' = outcome other ks p cl

    like : Like (f p) (q p) o o'
    like = plain-like (after v (updates ks)) cl (f p) (q p)

    same-if : q p ≡ f p → o' ≡ o
    same-if e = ap (λ x. Rattle.ec_plain.specs.Plain.plain (after v (updates ks)) cl x) e

    -- the same outcome; or none is made, and neither id is an operand
    abbrev Settled : Option ℕ → Type 0
    Settled op = (o' ≡ o) ⊎ (Each (λ o. is_make o.update ≡ false) (issued_by base (kept base past) (p, entry.Call c b l begun cl a op)) × Clear (f p) (issued base past) × Clear (q p) (issued base past))

    pub settled : (op : Option ℕ) → MayChange v f q past (p, entry.Call c b l begun cl a op) → Settled op
    settled op m = go (is_making o.update) refl
      where
        go : (z : Bool) → is_making o.update ≡ z → Settled op
        go true e = elim (m e) [ inl s ↦ inl (same-if s) | inr s ↦ inr s ]
        go false e = inl (elim like [ inl s ↦ sym s | inr s ↦ absurd (true-false (sym (ap (λ x. is_making x.update) s.4) ∙ e)) ])

    abbrev made : ℕ → Option Update → List Op
    made n u = elim u [ None ↦ [] | Some u ↦ record { clerk = c; boot = b; number = n; place = p; update = u } ∷ [] ]

    issues-same : (n : ℕ) → Settled (Some n) → made n o'.update ≡ made n o.update
    issues-same n (inl e) = ap (λ x. made n x.update) e
    issues-same n (inr m) = elim like [
      | inl e ↦ ap (λ x. made n x.update) (sym e)
      | inr s ↦ absurd (true-false (subst (λ x. Each (λ o. is_make o.update ≡ false) (made n x.update)) s.4 m.0).0)
    ]

    met-same : (op : Option ℕ) → Settled op → (d e : ℕ) → Each (λ r. meets o' cl r ≡ meets o cl r) (owed base past d e)
    met-same op (inl s) d e = all (owed base past d e)
      where
        all : (rs : Owed) → Each (λ r. meets o' cl r ≡ meets o cl r) rs
        all [] = tt
        all (r ∷ rs) = (ap (λ x. meets x cl r) s, all rs)
    met-same op (inr m) d e =
        each-map (λ r. IsOff (f p) r × IsOff (q p) r) (λ r. meets o' cl r ≡ meets o cl r) (λ r x. meets-like (f p) (q p) o o' cl r like x.0 x.1) (owed base past d e)
        (both (IsOff (f p)) (IsOff (q p)) (owed base past d e) (owed-off base (f p) d e past m.1) (owed-off base (q p) d e past m.2))

    due-same : (op : Option ℕ) → Settled op → Same past → (d e : ℕ) → due other past d e p cl ≡ due base past d e p cl
    due-same op m s d e =
        ap₂ (λ ks qs. distinct_numbers (filter (meets (outcome other ks p cl) cl) qs)) s.kept (s.owed d e)
        ∙ ap distinct_numbers (filter-as (meets o' cl) (meets o cl) (λ r. meets o' cl r ≡ meets o cl r) (λ r x. x) (owed base past d e) (met-same op m d e))

    full-same : (most : ℕ) (a : Answer) → IsFull most o a → IsFull most o' a
    full-same most (answer.NoRoom live reserved) z = (elim like [ inl e ↦ subst (λ x. T (is_making x.update)) e z.0 | inr s ↦ subst (λ x. T (is_making x.update)) (sym s.5) tt ], z.1)
    full-same most (answer.Reply r) z = z
    full-same most (answer.Lost ns) z = z

    reply-same : (a : Answer) (op : Option ℕ) → IsReply o a op → IsReply o' a op
    reply-same (answer.Reply r) op z = (z.0 ∙ reply, z.1 ∙ updates-as)
      where
        reply : o.reply ≡ o'.reply
        reply = elim like [ inl e ↦ ap (λ x. x.reply) e | inr s ↦ ap (λ x. x.reply) s.4 ∙ sym (ap (λ x. x.reply) s.5) ]

        updates-as : is_some o.update ≡ is_some o'.update
        updates-as = elim like [ inl e ↦ ap (λ x. is_some x.update) e | inr s ↦ ap (λ x. is_some x.update) s.4 ∙ sym (ap (λ x. is_some x.update) s.5) ]
    reply-same (answer.NoRoom live reserved) op z = z
    reply-same (answer.Lost ns) op z = z

  issued-same : (past : History) (e : ℕ × Entry) → MayChange v f q past e → issued_by other (kept base past) e ≡ issued_by base (kept base past) e
  issued-same past (p, entry.Call c b l begun cl a None) m = refl
  issued-same past (p, entry.Call c b l begun cl a (Some n)) m = issues-same past p c b l begun cl a n (settled past p c b l begun cl a (Some n) m)
  issued-same past (p, entry.Loss c b ns) m = refl

  kept-same : (past : History) (e : ℕ × Entry) → MayChange v f q past e → kept_next other (kept base past) e ≡ kept_next base (kept base past) e
  kept-same past (p, entry.Call c b l begun cl a op) m = ap (λ z. kept base past ++ z) (issued-same past (p, entry.Call c b l begun cl a op) m)
  kept-same past (p, entry.Loss c b ns) m = refl

  owed-same : (past : History) (e : ℕ × Entry) → MayChange v f q past e → (c b : ℕ) → owed_next other c b (kept base past) (owed base past c b) e ≡ owed_next base c b (kept base past) (owed base past c b) e
  owed-same past (p, entry.Call d g l begun cl a op) m c b = ap (λ z. cond (same_start c b d g) z (owed base past c b))
      (filter-as (λ r. not (meets (outcome other (kept base past) p cl) cl r)) (λ r. not (meets (outcome base (kept base past) p cl) cl r)) (λ r. meets (outcome other (kept base past) p cl) cl r ≡ meets (outcome base (kept base past) p cl) cl r)
      (λ r x. ap not x) (owed base past c b) (met-same past p d g l begun cl a op (settled past p d g l begun cl a op m) c b))
  owed-same past (p, entry.Loss d g ns) m c b = refl

  step : (past : History) (e : ℕ × Entry) → Same past → MayChange v f q past e → Same (past ++ e ∷ [])
  step past e s m = record {
    kept = kept-step other past e ∙ ap (λ ks. kept_next other ks e) s.kept ∙ kept-same past e m ∙ sym (kept-step base past e);
    issued = issued-step other past e ∙ ap₂ (λ is ks. is ++ issued_by other ks e) s.issued s.kept ∙ ap (λ z. issued base past ++ z) (issued-same past e m) ∙ sym (issued-step base past e);
    owed = λ c b. owed-step other past e c b ∙ ap₂ (λ ks qs. owed_next other c b ks qs e) s.kept (s.owed c b) ∙ owed-same past e m c b ∙ sym (owed-step base past e c b);
  }

  -- of an entry, and of all before it
  abbrev pub Both : History → ℕ × Entry → Type 0
  Both past e = Same past × MayChange v f q past e

  abbrev pub Full : History → ℕ × Entry → Type 0
  Full past e = Throughout Both [] past × Both past e

  pub full : (past h : History) → Same past → Throughout Both [] past → Throughout (MayChange v f q) past h → Throughout Full past h
  full past [] s was t = tt
  full past (e ∷ h) s was t = ((was, (s, t.0)), full (past ++ e ∷ []) h (step past e s t.0) (throughout-append Both [] past (e ∷ []) was ((s, t.0), tt)) t.1)

  ends : (past h : History) → Same past → Throughout (MayChange v f q) past h → Same (past ++ h)
  ends past [] s t = subst Same (sym (append-nil past)) s
  ends past (e ∷ h) s t = subst Same (Rattle.std.proofs.Common.append_assoc past (e ∷ []) h) (ends (past ++ e ∷ []) h (step past e s t.0) t.1)

  pub begin : Same []
  begin = record { kept = refl; issued = refl; owed = λ c b. refl }

  pub along : (P Q R : History → ℕ × Entry → Type 0) → ((past : History) (e : ℕ × Entry) → P past e → Q past e → R past e) → (past h : History) → Throughout P past h → Throughout Q past h → Throughout R past h
  along P Q R g past [] t u = tt
  along P Q R g past (e ∷ h) t u = (g past e t.0 u.0, along P Q R g (past ++ e ∷ []) h t.1 u.1)

  -- What is covered.

  abbrev asked_of : ℕ → ℕ → ℕ → List Op → Reached → List ℕ
  asked_of c b g ks t = elim t [ At o ↦ numbers (filter (λ k. of_start c b k && nat_le k.place g && has_operand o k.update) ks) | Not r ↦ [] ]

  asks-same : (past : History) (e : ℕ × Entry) → Same past → asks other past e ≡ asks base past e
  asks-same past (p, entry.Call c b l g (call.Fsync path) (answer.Reply reply.Ok) op) s = ap₂ (asked_of c b g) s.issued (ap (λ ks. (walk (after v (updates ks)) path).to) s.kept)
  asks-same past (p, entry.Call c b l g call.Sync (answer.Reply reply.Ok) op) s = ap (λ ks. numbers (filter (λ k. of_start c b k && nat_le k.place g) ks)) s.issued
  asks-same past _ s = refl

  covers-same : (past : History) (e : ℕ × Entry) (c b n : ℕ) → Same past → Covers other past e c b n → Covers base past e c b n
  covers-same past e c b n s k = record {
    own = k.own;
    closed_in = subst (λ os. InClosure (of_issue c b os) (λ m. member m (asks base past e)) n) s.issued (subst (λ ns. InClosure (of_issue c b (issued other past)) (λ m. member m ns) n) (asks-same past e s) k.closed_in);
    not_lost = k.not_lost;
  }

  -- Losses.

  off : (x : ℕ) (os : List ℕ) → member x os ≡ false → Each (λ o. (o == x) ≡ false) os
  off x [] k = tt
  off x (o ∷ os) k = let z = parts (x == o) (member x os) k in (turn x o z.0, off x os z.1)

  -- these operations were issued before the entry
  module _ (past : History) (p d g l begun : ℕ) (cl : Call) (a : Answer) (op : Option ℕ) (c b : ℕ) (ns : List ℕ) where
    abbrev e : ℕ × Entry
    e = (p, entry.Call d g l begun cl a op)

    abbrev so-far : List Op
    so-far = kept base past

    abbrev ls : List Op
    ls = filter (is_one_of c b ns) so-far

    clear-in : (x : ℕ) → Clear x (issued base past) → Clear x ls
    clear-in x k = each-filter (λ o. has_operand x o.update ≡ false) (is_one_of c b ns) so-far (kept-each base (λ o. has_operand x o.update ≡ false) past k)

    one : (k : Op) → (has_operand (f p) k.update ≡ false) × (has_operand (q p) k.update ≡ false)
        → not (list_any (λ o. member o (touched base so-far e)) (operands k.update)) ≡ not (list_any (λ o. member o (touched other so-far e)) (operands k.update))
    one k z = ap not (any-as (λ o. member o (touched base so-far e)) (λ o. member o (touched other so-far e)) (λ o. ((o == f p) ≡ false) × ((o == q p) ≡ false))
        (λ o y. sym (touched-like (f p) (q p) o (outcome base so-far p cl) (outcome other so-far p cl) (like past p d g l begun cl a) y.0 y.1)) (operands k.update)
        (both (λ o. (o == f p) ≡ false) (λ o. (o == q p) ≡ false) (operands k.update) (off (f p) (operands k.update) z.0) (off (q p) (operands k.update) z.1)))

    none : Settled past p d g l begun cl a op → touches_none base so-far ls e ≡ touches_none other so-far ls e
    none (inl s) = ap (λ x. list_all (λ k. not (list_any (λ o. member o x.touched) (operands k.update))) ls) (sym s)
    none (inr s) = all-as (λ k. not (list_any (λ o. member o (touched base so-far e)) (operands k.update))) (λ k. not (list_any (λ o. member o (touched other so-far e)) (operands k.update)))
        (λ k. (has_operand (f p) k.update ≡ false) × (has_operand (q p) k.update ≡ false)) one ls
        (both (λ k. has_operand (f p) k.update ≡ false) (λ k. has_operand (q p) k.update ≡ false) ls (clear-in (f p) s.1) (clear-in (q p) s.2))

  leaves-same : (past : History) (e : ℕ × Entry) → Both past e → (c b : ℕ) (ns : List ℕ)
      → leaves base (kept base past) c (filter (is_one_of c b ns) (kept base past)) e ≡ leaves other (kept other past) c (filter (is_one_of c b ns) (kept other past)) e
  leaves-same past (p, entry.Call d g l begun cl a op) m c b ns =
      ap (λ z. not (is_call_of_other c (entry.Call d g l begun cl a op)) || z) (none past p d g l begun cl a op c b ns (settled past p d g l begun cl a op m.1))
      ∙ ap (λ ks. leaves other ks c (filter (is_one_of c b ns) ks) (p, entry.Call d g l begun cl a op)) (sym (m.0).kept)
  leaves-same past (p, entry.Loss d g ms) m c b ns = ap (λ ks. leaves other ks c (filter (is_one_of c b ns) ks) (p, entry.Loss d g ms)) (sym (m.0).kept)

  lawful-same : (past : History) → Throughout Both [] past → Same past → (c b : ℕ) (ns : List ℕ) → IsLawful base past c b ns → IsLawful other past c b ns
  lawful-same past was s c b ns l = record {
    kept_so_far = subst (λ ks. T (list_all (λ n. list_any (is_one_of c b (n ∷ [])) ks) ns)) (sym s.kept) l.kept_so_far;
    uncovered = along Both (λ h e. Each (λ n. ¬ (Covers base h e c b n)) ns) (λ h e. Each (λ n. ¬ (Covers other h e c b n)) ns)
        (λ h e m t. each-map (λ n. ¬ (Covers base h e c b n)) (λ n. ¬ (Covers other h e c b n)) (λ n k j. k (covers-same h e c b n m.0 j)) ns t) [] past was l.uncovered;
    untouched = along Both (λ h e. T (leaves base (kept base h) c (filter (is_one_of c b ns) (kept base h)) e)) (λ h e. T (leaves other (kept other h) c (filter (is_one_of c b ns) (kept other h)) e))
        (λ h e m t. subst T (leaves-same h e m c b ns) t) [] past was l.untouched;
    closed = subst (λ ks. T (is_closed (is_one_of c b ns) (filter (of_start c b) ks))) (sym s.kept) l.closed;
    fits = subst (λ ks. Fits v (updates (without c b ns ks))) (sym s.kept) l.fits;
  }

  legal-next : (most : ℕ) (past : History) (e : ℕ × Entry) → Full past e → IsLegalNext base most past e → IsLegalNext other most past e
  legal-next most past (p, entry.Call c b l begun cl a op) m h = record {
    number = h.number;
    report = subst (λ ns. IsReported ns a) (sym (due-same past p c b l begun cl a op (settled past p c b l begun cl a op m.1.1) m.1.0 c b)) h.report;
    room = subst (λ ks. IsFull most (outcome other ks p cl) a) (sym (m.1.0).kept) (full-same past p c b l begun cl a most a h.room);
    reply = subst (λ ks. IsReply (outcome other ks p cl) a op) (sym (m.1.0).kept) (reply-same past p c b l begun cl a a op h.reply);
  }
  legal-next most past (p, entry.Loss c b ns) m h = lawful-same past m.0 m.1.0 c b ns h

  covered-next : (ss : List Shown) (past : History) (e : ℕ × Entry) → Full past e → IsCovered base ss past e → IsCovered other ss past e
  covered-next ss past (p, entry.Call c b l begun cl a op) m h = λ n k. h n (covers-same past (p, entry.Call c b l begun cl a op) c b n m.1.0 k)
  covered-next ss past (p, entry.Loss c b ns) m h = tt

  module _ (ss : List Shown) (t : Throughout (MayChange v f q) [] (place ss)) where
    all : Throughout Full [] (place ss)
    all = full [] (place ss) begin tt t

    pub kept-so : kept other (place ss) ≡ kept base (place ss)
    kept-so = (ends [] (place ss) begin t).kept

    pub legal-so : (most : ℕ) → IsLegal base most (place ss) → IsLegal other most (place ss)
    legal-so most h = along Full (IsLegalNext base most) (IsLegalNext other most) (legal-next most) [] (place ss) all h

    pub covered-so : AreCovered base ss → AreCovered other ss
    covered-so h = along Full (IsCovered base ss) (IsCovered other ss) (covered-next ss) [] (place ss) all h

    pub fits-so : Fits v (updates (kept base (place ss))) → Fits v (updates (kept other (place ss)))
    fits-so h = subst (λ ks. Fits v (updates ks)) (sym (ends [] (place ss) begin t).kept) h

    pub stored-so : (w : Images) → IsStored base ss w → IsStored other ss w
    stored-so w h = subst (λ ks. Rattle.ec_volume.specs.Volume.HaveOneShape w (after v (updates (filter (λ k. member k.number (durable k.clerk k.boot ss)) ks)))) (sym (ends [] (place ss) begin t).kept) h
