-- A history is legal exactly where no entry is the first at fault.
use Rattle.std.proofs.Common.{◌≡◌, refl, sym, ap, subst, ◌∙◌, append-nil, ℕ, List, [], ◌∷◌, ◌++◌, Option, Some, None, append_assoc}
use Rattle.std.specs.Prelude.{length, nat_lt}
use Rattle.ec_history.proofs.OfLaws.ForPlacing.Cuts.{throughout-append, throughout-back}
use Rattle.ec_plain.specs.declared.call.Call.{Call}
use Rattle.ec_plain.specs.declared.call.Outcome.{Outcome}
use Rattle.ec_history.specs.History.{Base, History, Throughout, Each, Covers, kept, outcome, due}
use Rattle.ec_history.specs.Legal.{IsNext, IsReported, IsFull, IsReply, IsLegal, IsLegalNext}
use Rattle.ec_history.specs.declared.entry.Answer.{Answer}
use Rattle.ec_history.specs.declared.entry.Answer.TheVariants as answer
use Rattle.ec_history.specs.declared.entry.Entry.{Entry}
use Rattle.ec_history.specs.declared.entry.Entry.TheVariants as entry
use Rattle.ec_history.specs.declared.rule.Rule.{Rule}
use Rattle.ec_history.specs.declared.rule.Rule.TheVariants as rule
use Rattle.ec_judge.specs.Faults.{BreaksCall, BreaksLoss, BreaksEntry, IsFirstEntry, AreKept, AreUncovered, AreUntouched, AreClosed}
use Rattle.ec_judge.proofs.Stable.{Stable, stable-T, stable-nat, stable-nats, stable-reply, stable-option, stable-bool, stable-each, stable-throughout}

-- What breaks a rule isn't legal.

call-excludes : (base : Base) (most : ℕ) (past : History) (c b p l g : ℕ) (cl : Call) (a : Answer) (op : Option ℕ) (r : Rule) → BreaksCall base most past c b p cl a op r → ¬ (IsLegalNext base most past (p, entry.Call c b l g cl a op))
call-excludes base most past c b p l g cl a op rule.Number k n = k n.number
call-excludes base most past c b p l g cl a op rule.Report k n = k.1 n.report
call-excludes base most past c b p l g cl a op rule.Room k n = k.2 n.room
call-excludes base most past c b p l g cl a op rule.Reply k n = k.3 n.reply
call-excludes base most past c b p l g cl a op rule.Shape k n = k
call-excludes base most past c b p l g cl a op rule.Named k n = k
call-excludes base most past c b p l g cl a op rule.Covered k n = k
call-excludes base most past c b p l g cl a op rule.Touched k n = k
call-excludes base most past c b p l g cl a op rule.Closed k n = k
call-excludes base most past c b p l g cl a op rule.Fits k n = k

loss-excludes : (base : Base) (most : ℕ) (past : History) (c b p : ℕ) (ns : List ℕ) (r : Rule) → BreaksLoss base past c b ns r → ¬ (IsLegalNext base most past (p, entry.Loss c b ns))
loss-excludes base most past c b p ns rule.Named k n = k n.kept_so_far
loss-excludes base most past c b p ns rule.Covered k n = k.1 n.uncovered
loss-excludes base most past c b p ns rule.Touched k n = k.2 n.untouched
loss-excludes base most past c b p ns rule.Closed k n = k.3 n.closed
loss-excludes base most past c b p ns rule.Fits k n = k.4 n.fits
loss-excludes base most past c b p ns rule.Shape k n = k
loss-excludes base most past c b p ns rule.Number k n = k
loss-excludes base most past c b p ns rule.Report k n = k
loss-excludes base most past c b p ns rule.Room k n = k
loss-excludes base most past c b p ns rule.Reply k n = k

pub entry-excludes : (base : Base) (most : ℕ) (past : History) (e : ℕ × Entry) (r : Rule) → BreaksEntry base most past e r → ¬ (IsLegalNext base most past e)
entry-excludes base most past (p, entry.Call c b l g cl a op) r k n = call-excludes base most past c b p l g cl a op r k n
entry-excludes base most past (p, entry.Loss c b ns) r k n = loss-excludes base most past c b p ns r k n

pub excludes : (base : Base) (most : ℕ) (h : History) (p : ℕ) (r : Rule) → IsFirstEntry base most h p r → ¬ (IsLegal base most h)
excludes base most h p r f l =
    let there : IsLegal base most (f.before ++ (p, f.its) ∷ f.after) = subst (IsLegal base most) (sym f.parts) l in
    entry-excludes base most f.before (p, f.its) r f.broken (throughout-back (IsLegalNext base most) [] f.before ((p, f.its) ∷ f.after) there).0

-- What breaks no rule is legal.

stable-next : (c b : ℕ) (past : History) (op : Option ℕ) → Stable (IsNext c b past op)
stable-next c b past None n = tt
stable-next c b past (Some m) n = stable-nat m _ n

stable-reported : (ns : List ℕ) (a : Answer) → Stable (IsReported ns a)
stable-reported ns (answer.Lost ms) n = (stable-nats ms ns (λ u. n (λ e. u e.0)), stable-T (nat_lt 0 (length ns)) (λ u. n (λ e. u e.1)))
stable-reported ns (answer.Reply r) n = stable-nats ns [] n
stable-reported ns (answer.NoRoom x y) n = stable-nats ns [] n

stable-full : (most : ℕ) (out : Outcome) (a : Answer) → Stable (IsFull most out a)
stable-full most out (answer.NoRoom x y) n = (stable-T _ (λ u. n (λ e. u e.0)), stable-T _ (λ u. n (λ e. u e.1)))
stable-full most out (answer.Reply r) n = tt
stable-full most out (answer.Lost ns) n = tt

stable-replied : (out : Outcome) (a : Answer) (op : Option ℕ) → Stable (IsReply out a op)
stable-replied out (answer.Reply r) op n = (stable-reply r out.reply (λ u. n (λ e. u e.0)), stable-bool _ _ (λ u. n (λ e. u e.1)))
stable-replied out (answer.NoRoom x y) op n = stable-option op None n
stable-replied out (answer.Lost ns) op n = stable-option op None n

legal-next : (base : Base) (most : ℕ) (past : History) (e : ℕ × Entry) → ((r : Rule) → ¬ (BreaksEntry base most past e r)) → IsLegalNext base most past e
legal-next base most past (p, entry.Call c b l g cl a op) f =
    let out : Outcome = outcome base (kept base past) p cl in
    let number : IsNext c b past op = stable-next c b past op (f rule.Number) in
    let report : IsReported (due base past c b p cl) a = stable-reported (due base past c b p cl) a (λ n. f rule.Report (number, n)) in
    let room : IsFull most out a = stable-full most out a (λ n. f rule.Room (number, report, n)) in
    record { number = number; report = report; room = room; reply = stable-replied out a op (λ n. f rule.Reply (number, report, room, n)) }
legal-next base most past (p, entry.Loss c b ns) f =
    let named : AreKept base past c b ns = stable-T _ (f rule.Named) in
    let uncovered : AreUncovered base past c b ns =
    stable-throughout (λ h e. Each (λ n. ¬ (Covers base h e c b n)) ns) (λ h e. stable-each (λ n. ¬ (Covers base h e c b n)) (λ n u v. u (λ w. w v)) ns) [] past (λ n. f rule.Covered (named, n)) in
    let untouched : AreUntouched base past c b ns = stable-throughout _ (λ h e. stable-T _) [] past (λ n. f rule.Touched (named, uncovered, n)) in
    let closed : AreClosed base past c b ns = stable-T _ (λ n. f rule.Closed (named, uncovered, untouched, n)) in
    record {
      kept_so_far = named;
      uncovered = uncovered;
      untouched = untouched;
      closed = closed;
      fits = λ o. stable-T _ (λ n. f rule.Fits (named, uncovered, untouched, closed, λ g. n (g o)));
    }

legal-from : (base : Base) (most : ℕ) (past h : History) → IsLegal base most past → ((p : ℕ) (r : Rule) → ¬ (IsFirstEntry base most (past ++ h) p r)) → Throughout (IsLegalNext base most) past h
legal-from base most past [] l f = tt
legal-from base most past ((p, e) ∷ h) l f =
    let next : IsLegalNext base most past (p, e) = legal-next base most past (p, e) (λ r k. f p r (record { before = past; its = e; after = h; parts = refl; legal = l; broken = k })) in
    let longer : IsLegal base most (past ++ (p, e) ∷ []) = throughout-append (IsLegalNext base most) [] past ((p, e) ∷ []) l (next, tt) in
    (next, legal-from base most (past ++ (p, e) ∷ []) h longer (subst (λ g. (q : ℕ) (r : Rule) → ¬ (IsFirstEntry base most g q r)) (sym (append_assoc past ((p, e) ∷ []) h)) f))

pub legal : (base : Base) (most : ℕ) (h : History) → ((p : ℕ) (r : Rule) → ¬ (IsFirstEntry base most h p r)) → IsLegal base most h
legal base most h f = legal-from base most [] h tt f

-- The first fault is one.

call-single : (base : Base) (most : ℕ) (past : History) (c b p : ℕ) (cl : Call) (a : Answer) (op : Option ℕ) (r s : Rule) → BreaksCall base most past c b p cl a op r → BreaksCall base most past c b p cl a op s → r ≡ s
call-single base most past c b p cl a op rule.Number rule.Number k m = refl
call-single base most past c b p cl a op rule.Number rule.Report k m = absurd (k m.0)
call-single base most past c b p cl a op rule.Number rule.Room k m = absurd (k m.0)
call-single base most past c b p cl a op rule.Number rule.Reply k m = absurd (k m.0)
call-single base most past c b p cl a op rule.Report rule.Number k m = absurd (m k.0)
call-single base most past c b p cl a op rule.Report rule.Report k m = refl
call-single base most past c b p cl a op rule.Report rule.Room k m = absurd (k.1 m.1)
call-single base most past c b p cl a op rule.Report rule.Reply k m = absurd (k.1 m.1)
call-single base most past c b p cl a op rule.Room rule.Number k m = absurd (m k.0)
call-single base most past c b p cl a op rule.Room rule.Report k m = absurd (m.1 k.1)
call-single base most past c b p cl a op rule.Room rule.Room k m = refl
call-single base most past c b p cl a op rule.Room rule.Reply k m = absurd (k.2 m.2)
call-single base most past c b p cl a op rule.Reply rule.Number k m = absurd (m k.0)
call-single base most past c b p cl a op rule.Reply rule.Report k m = absurd (m.1 k.1)
call-single base most past c b p cl a op rule.Reply rule.Room k m = absurd (m.2 k.2)
call-single base most past c b p cl a op rule.Reply rule.Reply k m = refl
call-single base most past c b p cl a op rule.Shape s k m = absurd k
call-single base most past c b p cl a op rule.Named s k m = absurd k
call-single base most past c b p cl a op rule.Covered s k m = absurd k
call-single base most past c b p cl a op rule.Touched s k m = absurd k
call-single base most past c b p cl a op rule.Closed s k m = absurd k
call-single base most past c b p cl a op rule.Fits s k m = absurd k
call-single base most past c b p cl a op r s k m = absurd m

loss-single : (base : Base) (past : History) (c b : ℕ) (ns : List ℕ) (r s : Rule) → BreaksLoss base past c b ns r → BreaksLoss base past c b ns s → r ≡ s
loss-single base past c b ns rule.Named rule.Named k m = refl
loss-single base past c b ns rule.Named rule.Covered k m = absurd (k m.0)
loss-single base past c b ns rule.Named rule.Touched k m = absurd (k m.0)
loss-single base past c b ns rule.Named rule.Closed k m = absurd (k m.0)
loss-single base past c b ns rule.Named rule.Fits k m = absurd (k m.0)
loss-single base past c b ns rule.Covered rule.Named k m = absurd (m k.0)
loss-single base past c b ns rule.Covered rule.Covered k m = refl
loss-single base past c b ns rule.Covered rule.Touched k m = absurd (k.1 m.1)
loss-single base past c b ns rule.Covered rule.Closed k m = absurd (k.1 m.1)
loss-single base past c b ns rule.Covered rule.Fits k m = absurd (k.1 m.1)
loss-single base past c b ns rule.Touched rule.Named k m = absurd (m k.0)
loss-single base past c b ns rule.Touched rule.Covered k m = absurd (m.1 k.1)
loss-single base past c b ns rule.Touched rule.Touched k m = refl
loss-single base past c b ns rule.Touched rule.Closed k m = absurd (k.2 m.2)
loss-single base past c b ns rule.Touched rule.Fits k m = absurd (k.2 m.2)
loss-single base past c b ns rule.Closed rule.Named k m = absurd (m k.0)
loss-single base past c b ns rule.Closed rule.Covered k m = absurd (m.1 k.1)
loss-single base past c b ns rule.Closed rule.Touched k m = absurd (m.2 k.2)
loss-single base past c b ns rule.Closed rule.Closed k m = refl
loss-single base past c b ns rule.Closed rule.Fits k m = absurd (k.3 m.3)
loss-single base past c b ns rule.Fits rule.Named k m = absurd (m k.0)
loss-single base past c b ns rule.Fits rule.Covered k m = absurd (m.1 k.1)
loss-single base past c b ns rule.Fits rule.Touched k m = absurd (m.2 k.2)
loss-single base past c b ns rule.Fits rule.Closed k m = absurd (m.3 k.3)
loss-single base past c b ns rule.Fits rule.Fits k m = refl
loss-single base past c b ns rule.Shape s k m = absurd k
loss-single base past c b ns rule.Number s k m = absurd k
loss-single base past c b ns rule.Report s k m = absurd k
loss-single base past c b ns rule.Room s k m = absurd k
loss-single base past c b ns rule.Reply s k m = absurd k
loss-single base past c b ns r s k m = absurd m

entry-single : (base : Base) (most : ℕ) (past : History) (e : ℕ × Entry) (r s : Rule) → BreaksEntry base most past e r → BreaksEntry base most past e s → r ≡ s
entry-single base most past (p, entry.Call c b l g cl a op) r s k m = call-single base most past c b p cl a op r s k m
entry-single base most past (p, entry.Loss c b ns) r s k m = loss-single base past c b ns r s k m

-- two cuts of one history, each at an entry at fault behind a legal history, are one
same-cut : (base : Base) (most : ℕ) (past x y : History) (e f : ℕ × Entry) (v w : History) (r s : Rule) → x ++ e ∷ v ≡ y ++ f ∷ w
    → Throughout (IsLegalNext base most) past x → Throughout (IsLegalNext base most) past y → BreaksEntry base most (past ++ x) e r → BreaksEntry base most (past ++ y) f s → (e.0 ≡ f.0) × (r ≡ s)
same-cut base most past [] [] e f v w r s same lx ly k m =
    let one : e ≡ f = head e f v w same in
    (ap (λ z. z.0) one, entry-single base most (past ++ []) f r s (subst (λ z. BreaksEntry base most (past ++ []) z r) one k) m)
  where
    head : (e f : ℕ × Entry) (v w : History) → e ∷ v ≡ f ∷ w → e ≡ f
    head e f v w same = cc
same-cut base most past [] (g ∷ y) e f v w r s same lx ly k m =
    let one : e ≡ g = head e g v (y ++ f ∷ w) same in
    absurd (entry-excludes base most past g r (subst (λ z. BreaksEntry base most past z r) one (subst (λ h. BreaksEntry base most h e r) (append-none past) k)) ly.0)
  where
    head : (e f : ℕ × Entry) (v w : History) → e ∷ v ≡ f ∷ w → e ≡ f
    head e f v w same = cc

    append-none : (h : History) → h ++ [] ≡ h
    append-none h = append-nil h
same-cut base most past (g ∷ x) [] e f v w r s same lx ly k m =
    let one : f ≡ g = head f g w (x ++ e ∷ v) (sym same) in
    absurd (entry-excludes base most past g s (subst (λ z. BreaksEntry base most past z s) one (subst (λ h. BreaksEntry base most h f s) (append-none past) m)) lx.0)
  where
    head : (e f : ℕ × Entry) (v w : History) → e ∷ v ≡ f ∷ w → e ≡ f
    head e f v w same = cc

    append-none : (h : History) → h ++ [] ≡ h
    append-none h = append-nil h
same-cut base most past (g ∷ x) (j ∷ y) e f v w r s same lx ly k m =
    let one : g ≡ j = head g j (x ++ e ∷ v) (y ++ f ∷ w) same in
    let rest : x ++ e ∷ v ≡ y ++ f ∷ w = tail g j (x ++ e ∷ v) (y ++ f ∷ w) same in
    same-cut base most (past ++ g ∷ []) x y e f v w r s rest lx.1 (subst (λ z. Throughout (IsLegalNext base most) (past ++ z ∷ []) y) (sym one) ly.1)
    (subst (λ h. BreaksEntry base most h e r) (sym (append_assoc past (g ∷ []) x)) k) (subst (λ h. BreaksEntry base most h f s) (ap (λ z. past ++ z ∷ y) (sym one) ∙ sym (append_assoc past (g ∷ []) y)) m)
  where
    head : (e f : ℕ × Entry) (v w : History) → e ∷ v ≡ f ∷ w → e ≡ f
    head e f v w same = cc

    tail : (e f : ℕ × Entry) (v w : History) → e ∷ v ≡ f ∷ w → v ≡ w
    tail e f v w same = cc

pub single : (base : Base) (most : ℕ) (h : History) (p q : ℕ) (r s : Rule) → IsFirstEntry base most h p r → IsFirstEntry base most h q s → (p ≡ q) × (r ≡ s)
single base most h p q r s f g = same-cut base most [] f.before g.before (p, f.its) (q, g.its) f.after g.after r s (f.parts ∙ sym g.parts) f.legal g.legal f.broken g.broken
