-- The line's clerk stays at work.
use Rattle.std.proofs.Common.{◌≡◌, refl, sym, ap, subst, ◌∙◌, inl, inr, arith, ◌<◌, ℕ, zero, suc, T, Bool, true, false, not, ◌==◌, ◌&&◌, cond, List, [], ◌∷◌, ◌++◌, length, Some, Contains, append-nil}
use Rattle.std.specs.Prelude.{slice_index_or}
use Rattle.std.proofs.lemmas.Bool.{true≢false, and_parts}
use Rattle.std.proofs.lemmas.List.Elements.{filter-append, Contains-append_left}
use Rattle.ec_base.specs.declared.ids.Hold.{Hold}
use Rattle.ec_base.specs.declared.ids.Hold.TheVariants.{Free}
use Rattle.ec_volume.specs.Update.{member}
use Rattle.ec_history.specs.History.{Each}
use Rattle.ec_sessions.specs.declared.slot.Slot.{Slot}
use Rattle.ec_wire.specs.declared.msg.Msg.{Msg}
use Rattle.ec_wire.specs.declared.msg.Msg.TheVariants as msg
use Rattle.ec_durable.specs.Durable.{slot}
use Rattle.ec_protocol.specs.declared.clerk.Clerk.{Clerk}
use Rattle.ec_protocol.specs.declared.server.Server.{Server}
use Rattle.ec_quiet.specs.Facts.{IsIn}
use Rattle.ec_quiet.specs.Phases.{IsWorking, IsWanting, IsLeaving, IsGivenBack, backs, main, is_back, is_back_message}
use Rattle.ec_quiet.specs.Scenes.{Mail, Scene}
use Rattle.ec_quiet.specs.Works.{Work}
use Rattle.ec_quiet.specs.OfDeliveries.Orderly.{IsLikeBut, HasMoved, KeepsBacks, are_no_backs}
use Rattle.ec_base.proofs.Numbers.{same-self}

pub in-moves : (xs : List ℕ) (v w : Server) (c s : ℕ) (sl sm : Slot) (k : Clerk) → sl.session ≡ s → HasMoved xs v w c s sl sm → IsIn v c sl k → IsIn w c sm k
in-moves xs v w c s sl sm k own move i = record {
  there = move.slot;
  is_open = move.is_open ∙ i.is_open;
  session = i.session ∙ ap Some (sym move.session);
  epoch = i.epoch ∙ sym move.epoch;
  claimed = ap (λ z. member z w.claimed) (move.session ∙ own) ∙ move.claimed (sym (ap (λ z. member z v.claimed) own) ∙ i.claimed);
  unowed = i.unowed;
  numbers = i.numbers;
  lasts = λ x. omega (arith, i.lasts x, move.number);
  capacity = i.capacity;
  room = i.room;
}

-- a slot that stays
not-moved : (xs : List ℕ) (v w : Server) (c s : ℕ) (sl : Slot) → slot v.durable c ≡ Some sl → IsLikeBut xs v w c s → HasMoved xs v w c s sl sl
not-moved xs v w c s sl there like = record { slot = like.slot ∙ there; session = refl; is_open = refl; epoch = like.epoch; claimed = like.claimed; number = like.number; tokens = like.tokens }

module _ (xs ys : List ℕ) (j : Work) (sc : Scene) (w : Server) (mail : Mail) (wider : (x : ℕ) → T (member x xs) → T (member x ys)) (sl sm : Slot) (move : HasMoved ys sc.server w j.clerk j.session sl sm) (keeps : KeepsBacks j sc.mail mail) where
  outside : (x : ℕ) → T (not (member x ys)) → T (not (member x xs))
  outside x m = go (member x xs) (member x ys) (wider x) m
    where
      go : (a b : Bool) → (T a → T b) → T (not b) → T (not a)
      go true true f m = absurd m
      go true false f m = absurd (f tt)
      go false b f m = tt

  leaving-stays : (k : Clerk) (x : ℕ) → T (not (member x ys)) → IsLeaving j sc k x → IsLeaving j (record sc { server = w; mail = mail }) k x
  leaving-stays k x m l = record {
    number = l.number;
    hold = l.hold;
    sent = subst (λ e. Contains mail (j.clerk, msg.Back j.session e x l.number Free)) (sym move.epoch)
        (keeps.kept (j.clerk, msg.Back j.session sc.server.durable.epoch x l.number Free) (ap (λ b. b && true) (same-self j.clerk)) l.sent);
    recorded = move.tokens x m ∙ l.recorded;
    gone = l.gone;
    old = l.old;
  }

  given-stays : (k : Clerk) → Each {A = ℕ × Msg} (λ m. IsGivenBack j sc.server.durable.epoch k m.1) (backs j sc.mail) → Each {A = ℕ × Msg} (λ m. IsGivenBack j w.durable.epoch k m.1) (backs j mail)
  given-stays k g = subst (λ e. Each {A = ℕ × Msg} (λ m. IsGivenBack j e k m.1) (backs j mail)) (sym move.epoch) (subst (Each {A = ℕ × Msg} (λ m. IsGivenBack j sc.server.durable.epoch k m.1)) (sym keeps.same) g)

  pub working-moves : (k : Clerk) → IsWorking xs j sc sl k → IsWorking ys j (record sc { server = w; mail = mail }) sm k
  working-moves k a = record {
    there = a.there;
    inside = in-moves ys sc.server w j.clerk j.session sl sm k a.session move a.inside;
    session = move.session ∙ a.session;
    recalls = a.recalls;
    limits = a.limits;
    same = λ x m. elim (a.same x (outside x m)) [ inl s ↦ inl (move.tokens x m ∙ s) | inr l ↦ inr (leaving-stays k x m l) ];
    given_back = given-stays k a.given_back;
  }

module _ (xs ys : List ℕ) (j : Work) (sc : Scene) (w : Server) (mail : Mail) (wider : (x : ℕ) → T (member x xs) → T (member x ys)) (like : IsLikeBut ys sc.server w j.clerk j.session) (keeps : KeepsBacks j sc.mail mail) where
  pub working-stays : (sl : Slot) (k : Clerk) → IsWorking xs j sc sl k → IsWorking ys j (record sc { server = w; mail = mail }) sl k
  working-stays sl k a = working-moves xs ys j sc w mail wider sl sl (not-moved ys sc.server w j.clerk j.session sl a.inside.there like) keeps k a

  pub wanting-stays : (x : ℕ) (h : Hold) (n : ℕ) → IsWanting xs j sc x h n → IsWanting ys j (record sc { server = w; mail = mail }) x h n
  wanting-stays x h n a = record {
    slot = a.slot;
    clerk = a.clerk;
    working = working-stays a.slot a.clerk a.working;
    task = a.task;
    asking = a.asking;
    batches = a.batches;
    window = a.window;
    grants = a.grants;
    aged = a.aged;
    touched = a.touched;
    number = a.number;
    below = a.below;
    earlier = a.earlier;
    wants = a.wants;
    answered = a.answered;
  }

-- Mail.

pub off-and : (a b : Bool) → not b ≡ true → (a && b) ≡ false
off-and true true e = absurd (true≢false (sym e))
off-and true false e = refl
off-and false b e = refl

pub no-backs : (j : Work) (ns : Mail) → are_no_backs ns ≡ true → backs j ns ≡ []
no-backs j [] e = refl
no-backs j (n ∷ ns) e =
    let p = and_parts (not (is_back_message n.1)) (are_no_backs ns) e in
    ap (λ b. cond b (n ∷ backs j ns) (backs j ns)) (off-and (n.0 == j.clerk) (is_back_message n.1) p.0) ∙ no-backs j ns p.1

pub all-main : (j : Work) (ns : Mail) → are_no_backs ns ≡ true → main j ns ≡ ns
all-main j [] e = refl
all-main j (n ∷ ns) e =
    let p = and_parts (not (is_back_message n.1)) (are_no_backs ns) e in
    ap (λ b. cond (not b) (n ∷ main j ns) (main j ns)) (off-and (n.0 == j.clerk) (is_back_message n.1) p.0) ∙ ap (λ zs. n ∷ zs) (all-main j ns p.1)

-- a member is the first one, or a later one
pub later-one : (j : Work) (m n : ℕ × Msg) (ms : Mail) → is_back j m ≡ false → is_back j n ≡ true → Contains (m ∷ ms) n → Contains ms n
later-one j m n ms e f c = go c.0 c.1 c.2
  where
    go : (i : ℕ) → i < length (m ∷ ms) → slice_index_or (m ∷ ms) i n ≡ n → Contains ms n
    go zero l q = absurd (true≢false (sym f ∙ ap (is_back j) (sym q) ∙ e))
    go (suc i) l q = (i, omega (arith, l), q)

pub keeps-backs : (j : Work) (m : ℕ × Msg) (ms ns : Mail) → is_back j m ≡ false → are_no_backs ns ≡ true → KeepsBacks j (m ∷ ms) (ms ++ ns)
keeps-backs j m ms ns e none = record {
  same = filter-append (is_back j) ms ns ∙ ap (λ zs. backs j ms ++ zs) (no-backs j ns none) ∙ append-nil (backs j ms) ∙ sym (ap (λ b. cond b (m ∷ backs j ms) (backs j ms)) e);
  kept = λ n f c. Contains-append_left ms ns n (later-one j m n ms e f c);
}

pub main-joins : (j : Work) (ms ns : Mail) → are_no_backs ns ≡ true → main j (ms ++ ns) ≡ main j ms ++ ns
main-joins j ms ns none = filter-append (λ m. not (is_back j m)) ms ns ∙ ap (λ zs. main j ms ++ zs) (all-main j ns none)

pub main-front : (j : Work) (m : ℕ × Msg) (ms : Mail) → is_back j m ≡ false → main j (m ∷ ms) ≡ m ∷ main j ms
main-front j m ms e = ap (λ b. cond (not b) (m ∷ main j ms) (main j ms)) e
