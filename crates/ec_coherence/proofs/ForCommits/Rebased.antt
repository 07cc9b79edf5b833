-- A history reads the fresh ids of its own places alone.
use Rattle.std.proofs.Common.{◌≡◌, refl, sym, ap, subst, ◌∙◌, ℕ, T, Bool, not, ◌&&◌, ◌||◌, cond, List, [], ◌∷◌, ◌++◌, Option, Some, None}
use Rattle.std.specs.Prelude.{nat_le}
use Rattle.std.specs.List.{filter, list_any, list_all}
use Rattle.ec_volume.specs.Update.{operands, has_operand, member}
use Rattle.ec_volume.specs.Volume.{Images, after, Fits}
use Rattle.ec_volume.specs.declared.update.Update.{Update}
use Rattle.ec_plain.specs.Walk.{walk, At, Not}
use Rattle.ec_plain.specs.Plain.{plain}
use Rattle.ec_plain.specs.declared.call.Call.{Call}
use Rattle.ec_plain.specs.declared.call.Call.TheVariants as call
use Rattle.ec_plain.specs.declared.call.Reply.TheVariants as reply
use Rattle.ec_order.specs.Order.{InClosure}
use Rattle.ec_history.specs.History.{Base, History, Op, Owed, Throughout, Each, updates, numbers, same_start, of_start, is_one_of, of_issue, outcome, issued_by, kept_next, kept_from, kept, issued_from, issued, touched, asks, Covers, owed_next, owed_from, owed, meets, due, distinct_numbers, without}
use Rattle.ec_history.specs.Legal.{IsLegal, IsLegalNext, IsReported, IsFull, IsReply, is_call_of_other, leaves, is_closed}
use Rattle.ec_history.specs.declared.entry.Answer.TheVariants as answer
use Rattle.ec_history.specs.declared.entry.Entry.{Entry}
use Rattle.ec_history.specs.declared.entry.Entry.TheVariants as entry
use Rattle.ec_history.proofs.OfLaws.ForPlacing.Numbers.{each-append}
use Rattle.ec_history.proofs.OfLaws.ForPlacing.BasesAlike.{each-map}

-- the fresh ids are the same at the places of these entries
abbrev pub Alike : (ℕ → ℕ) → (ℕ → ℕ) → History → Type 0
Alike f g h = Each (λ e. f e.0 ≡ g e.0) h

pub alike-back : (f g : ℕ → ℕ) (h : History) → Alike f g h → Alike g f h
alike-back f g h = each-map (λ e. f e.0 ≡ g e.0) (λ e. g e.0 ≡ f e.0) (λ e q. sym q) h

abbrev op_of : ℕ → ℕ → ℕ → ℕ → Option Update → List Op
op_of c b n p u = elim u [ None ↦ [] | Some w ↦ record { clerk = c; boot = b; number = n; place = p; update = w } ∷ [] ]

-- what an entry asks for, by what is kept and issued before it
asks_of : Images → List Op → List Op → ℕ × Entry → List ℕ
asks_of v ks is (p, entry.Call c b l begun (call.Fsync path) (answer.Reply reply.Ok) op) =
    elim ((walk (after v (updates ks)) path).to) [
      | At o ↦ numbers (filter (λ k. of_start c b k && nat_le k.place begun && has_operand o k.update) is)
      | Not r ↦ []
    ]
asks_of v ks is (p, entry.Call c b l begun call.Sync (answer.Reply reply.Ok) op) = numbers (filter (λ k. of_start c b k && nat_le k.place begun) is)
asks_of v ks is _ = []

asks-of : (base : Base) (past : History) (e : ℕ × Entry) → asks base past e ≡ asks_of base.volume (kept base past) (issued base past) e
unfolding asks_of
asks-of base past (p, entry.Call c b l begun (call.Fsync path) (answer.Reply reply.Ok) op) = refl
asks-of base past (p, entry.Call c b l begun call.Sync (answer.Reply reply.Ok) op) = refl
asks-of base past e = refl

pub throughout-map : (A : ℕ × Entry → Type 0) (P Q : History → ℕ × Entry → Type 0) → ((past : History) (e : ℕ × Entry) → Each A past → A e → P past e → Q past e)
    → (past h : History) → Each A past → Each A h → Throughout P past h → Throughout Q past h
throughout-map A P Q k past [] a b t = tt
throughout-map A P Q k past (e ∷ h) a b t = (k past e a b.0 t.0, throughout-map A P Q k (past ++ e ∷ []) h (each-append A past (e ∷ []) a (b.0, tt)) b.1 t.1)

module _ (v : Images) (f g : ℕ → ℕ) where
  abbrev pub one : Base
  one = record { volume = v; fresh = f }

  abbrev pub two : Base
  two = record { volume = v; fresh = g }

  outcome-same : (ks : List Op) (p : ℕ) (cl : Call) → f p ≡ g p → outcome one ks p cl ≡ outcome two ks p cl
  outcome-same ks p cl e = ap (λ x. plain (after v (updates ks)) cl x) e

  issued_by-same : (ks : List Op) (e : ℕ × Entry) → f e.0 ≡ g e.0 → issued_by one ks e ≡ issued_by two ks e
  issued_by-same ks (p, entry.Call c b l begun cl a None) q = refl
  issued_by-same ks (p, entry.Call c b l begun cl a (Some n)) q = ap (λ o. op_of c b n p o.update) (outcome-same ks p cl q)
  issued_by-same ks (p, entry.Loss c b ns) q = refl

  kept_next-same : (ks : List Op) (e : ℕ × Entry) → f e.0 ≡ g e.0 → kept_next one ks e ≡ kept_next two ks e
  kept_next-same ks (p, entry.Call c b l begun cl a op) q = ap (λ xs. ks ++ xs) (issued_by-same ks (p, entry.Call c b l begun cl a op) q)
  kept_next-same ks (p, entry.Loss c b ns) q = refl

  kept_from-same : (ks : List Op) (h : History) → Alike f g h → kept_from one ks h ≡ kept_from two ks h
  kept_from-same ks [] a = refl
  kept_from-same ks (e ∷ h) a = ap (λ x. kept_from one x h) (kept_next-same ks e a.0) ∙ kept_from-same (kept_next two ks e) h a.1

  pub kept-same : (h : History) → Alike f g h → kept one h ≡ kept two h
  kept-same h a = kept_from-same [] h a

  issued_from-same : (ks : List Op) (h : History) → Alike f g h → issued_from one ks h ≡ issued_from two ks h
  issued_from-same ks [] a = refl
  issued_from-same ks (e ∷ h) a =
      ap (λ x. x ++ issued_from one (kept_next one ks e) h) (issued_by-same ks e a.0)
      ∙ ap (λ x. issued_by two ks e ++ issued_from one x h) (kept_next-same ks e a.0)
      ∙ ap (λ x. issued_by two ks e ++ x) (issued_from-same (kept_next two ks e) h a.1)

  pub issued-same : (h : History) → Alike f g h → issued one h ≡ issued two h
  issued-same h a = issued_from-same [] h a

  owed_next-same : (c b : ℕ) (ks : List Op) (qs : Owed) (e : ℕ × Entry) → f e.0 ≡ g e.0 → owed_next one c b ks qs e ≡ owed_next two c b ks qs e
  owed_next-same c b ks qs (p, entry.Call d m l begun cl a op) q = ap (λ o. cond (same_start c b d m) (filter (λ x. not (meets o cl x)) qs) qs) (outcome-same ks p cl q)
  owed_next-same c b ks qs (p, entry.Loss d m ns) q = refl

  pub owed_from-same : (c b : ℕ) (ks : List Op) (qs : Owed) (h : History) → Alike f g h → owed_from one c b ks qs h ≡ owed_from two c b ks qs h
  owed_from-same c b ks qs [] a = refl
  owed_from-same c b ks qs (e ∷ h) a =
      ap (λ x. owed_from one c b x (owed_next one c b ks qs e) h) (kept_next-same ks e a.0)
      ∙ ap (λ x. owed_from one c b (kept_next two ks e) x h) (owed_next-same c b ks qs e a.0)
      ∙ owed_from-same c b (kept_next two ks e) (owed_next two c b ks qs e) h a.1

  out-same : (past : History) (p : ℕ) (cl : Call) → Alike f g past → f p ≡ g p → outcome one (kept one past) p cl ≡ outcome two (kept two past) p cl
  out-same past p cl a q = ap (λ ks. outcome one ks p cl) (kept-same past a) ∙ outcome-same (kept two past) p cl q

  due-same : (past : History) (c b p : ℕ) (cl : Call) → Alike f g past → f p ≡ g p → due one past c b p cl ≡ due two past c b p cl
  due-same past c b p cl a q =
      ap (λ o. distinct_numbers (filter (meets o cl) (owed one past c b))) (out-same past p cl a q)
      ∙ ap (λ qs. distinct_numbers (filter (meets (outcome two (kept two past) p cl) cl) qs)) (owed_from-same c b [] [] past a)

  touched-same : (ks : List Op) (e : ℕ × Entry) → f e.0 ≡ g e.0 → touched one ks e ≡ touched two ks e
  touched-same ks (p, entry.Call c b l begun cl a op) q = ap (λ o. o.touched) (outcome-same ks p cl q)
  touched-same ks (p, entry.Loss c b ns) q = refl

  asks-same : (past : History) (e : ℕ × Entry) → Alike f g past → asks one past e ≡ asks two past e
  asks-same past e a = asks-of one past e ∙ ap (λ ks. asks_of v ks (issued one past) e) (kept-same past a) ∙ ap (λ is. asks_of v (kept two past) is e) (issued-same past a) ∙ sym (asks-of two past e)

  pub covers-same : (past : History) (e : ℕ × Entry) (c b n : ℕ) → Alike f g past → Covers one past e c b n → Covers two past e c b n
  covers-same past e c b n a k = record {
    own = k.own;
    closed_in = subst (λ xs. InClosure (of_issue c b (issued two past)) (λ m. member m xs) n) (asks-same past e a) (subst (λ is. InClosure (of_issue c b is) (λ m. member m (asks one past e)) n) (issued-same past a) k.closed_in);
    not_lost = k.not_lost;
  }

  pub leaves-same : (past : History) (c : ℕ) (p : Op → Bool) (e : ℕ × Entry) → Alike f g past → f e.0 ≡ g e.0 → leaves one (kept one past) c (filter p (kept one past)) e ≡ leaves two (kept two past) c (filter p (kept two past)) e
  leaves-same past c p e a q =
      ap (λ ks. leaves one ks c (filter p ks) e) (kept-same past a)
      ∙ ap (λ xs. not (is_call_of_other c e.1) || list_all (λ k. not (list_any (λ o. member o xs) (operands k.update))) (filter p (kept two past))) (touched-same (kept two past) e q)

-- So what is legal and covered with these fresh ids is so with those.
module _ (v : Images) (f g : ℕ → ℕ) where
  next-same : (most : ℕ) (past : History) (e : ℕ × Entry) → Alike f g past → f e.0 ≡ g e.0 → IsLegalNext (one v f g) most past e → IsLegalNext (two v f g) most past e
  next-same most past (p, entry.Call c b l begun cl a op) x q k = record {
    number = k.number;
    report = subst (λ ns. IsReported ns a) (due-same v f g past c b p cl x q) k.report;
    room = subst (λ o. IsFull most o a) (out-same v f g past p cl x q) k.room;
    reply = subst (λ o. IsReply o a op) (out-same v f g past p cl x q) k.reply;
  }
  next-same most past (p, entry.Loss c b ns) x q k = record {
    kept_so_far = subst (λ ks. T (list_all (λ n. list_any (is_one_of c b (n ∷ [])) ks) ns)) (kept-same v f g past x) k.kept_so_far;
    uncovered = throughout-map (λ e. f e.0 ≡ g e.0) _ _ (λ h e y r t. each-map _ _ (λ n no_cover z. no_cover (covers-same v g f h e c b n (alike-back f g h y) z)) ns t) [] past tt x k.uncovered;
    untouched = throughout-map (λ e. f e.0 ≡ g e.0) _ _ (λ h e y r t. subst T (leaves-same v f g h c (is_one_of c b ns) e y r) t) [] past tt x k.untouched;
    closed = subst (λ ks. T (is_closed (is_one_of c b ns) (filter (of_start c b) ks))) (kept-same v f g past x) k.closed;
    fits = subst (λ ks. Fits v (updates (without c b ns ks))) (kept-same v f g past x) k.fits;
  }

  pub legal-same : (most : ℕ) (h : History) → Alike f g h → IsLegal (one v f g) most h → IsLegal (two v f g) most h
  legal-same most h a t = throughout-map (λ e. f e.0 ≡ g e.0) _ _ (λ past e x q k. next-same most past e x q k) [] h tt a t
