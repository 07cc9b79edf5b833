-- What deliveries to the server share: sessions, mail, and idle clerks.
use Rattle.std.proofs.Common.{◌≡◌, ◌≢◌, refl, sym, ap, ◌∙◌, arith, ℕ, suc, Bool, true, false, ◌==◌, ◌&&◌, cond, List, [], ◌∷◌, map, filter, Option, Some}
use Rattle.std.specs.Prelude.{is_none}
use Rattle.std.proofs.lemmas.Bool.{eqb-true, true≢false}
use Rattle.ec_base.specs.declared.ids.Hold.{Hold}
use Rattle.ec_sessions.specs.declared.slot.Slot.{Slot}
use Rattle.ec_sessions.specs.OfTokens.Tokens.{Tokens, Holder, first_holder, conflicts, is_clear}
use Rattle.ec_sessions.specs.OfRecall.Due.{told_of, recall_of, actions, wants_after}
use Rattle.ec_sessions.specs.declared.recall.want.Want.{Want}
use Rattle.ec_wire.specs.declared.msg.Msg.{Msg}
use Rattle.ec_durable.specs.Durable.{slot}
use Rattle.ec_protocol.specs.declared.clerk.Clerk.{Clerk}
use Rattle.ec_protocol.specs.declared.server.Server.{Server}
use Rattle.ec_quiet.specs.Facts.{IsIdleBut, session_clerk}
use Rattle.ec_quiet.specs.Phases.{backs, is_back, is_back_message}
use Rattle.ec_quiet.specs.Scenes.{Mail}
use Rattle.ec_quiet.specs.Works.{Work}
use Rattle.ec_machine_laws.specs.Serving.{telling}
use Rattle.ec_machine_laws.proofs.Wanting.{one-recalled, one-stays, no-news}
use Rattle.ec_quiet.specs.OfDeliveries.Orderly.{IsLike, IsLikeBut, KeepsBacks}
use Rattle.ec_quiet.proofs.OfDeliveries.Backed.{IsHolder}
use Rattle.ec_quiet.proofs.OfDeliveries.Working.{later-one}
use Rattle.ec_base.proofs.Numbers.{same-self}

-- Sessions.

pub like-but : (xs : List ℕ) (v w : Server) (c s : ℕ) → IsLike v w c s → IsLikeBut xs v w c s
like-but xs v w c s l = record { slot = l.slot; epoch = l.epoch; claimed = l.claimed; number = l.number; tokens = λ x m. l.tokens x }

-- a holder of another session is another clerk
pub other-clerk : (j : Work) (v : Server) (s : ℕ) (a : IsHolder v s) (sl : Slot) → slot v.durable j.clerk ≡ Some sl → sl.session ≡ j.session → (s == j.session) ≡ false → (session_clerk v s == j.clerk) ≡ false
other-clerk j v s a sl there own other = go (session_clerk v s == j.clerk) refl
  where
    go : (b : Bool) → (session_clerk v s == j.clerk) ≡ b → b ≡ false
    go true e =
        let both : ◌≡◌ {A = Option Slot} (Some a.slot_is) (Some sl) = sym a.there ∙ ap (slot v.durable) (eqb-true (session_clerk v s) j.clerk e) ∙ there in
        let same : a.slot_is ≡ sl = cc in
        absurd (true≢false (sym (ap (λ z. z == j.session) (sym a.session ∙ ap (λ z. z.session) same ∙ own) ∙ same-self j.session) ∙ other))
    go false e = refl

pub idle-wider : (xs : List ℕ) (v : Server) (c : ℕ) (sl : Slot) (k : Clerk) → IsIdleBut [] v c sl k → IsIdleBut xs v c sl k
idle-wider xs v c sl k i = record {
  inside = i.inside;
  free = i.free;
  waiting = i.waiting;
  pushes = i.pushes;
  asking = i.asking;
  window = i.window;
  grants = i.grants;
  answered = i.answered;
  same = λ x m. i.same x tt;
}

-- Mail.

pub no-back : (j : Work) (c : ℕ) (m : Msg) → is_back_message m ≡ false → is_back j (c, m) ≡ false
no-back j c m e = ap (λ b. (c == j.clerk) && b) e ∙ off (c == j.clerk)
  where
    off : (b : Bool) → (b && false) ≡ false
    off true = refl
    off false = refl

-- another message at the front
pub keeps-front : (j : Work) (m n : ℕ × Msg) (ms : Mail) → is_back j m ≡ false → is_back j n ≡ false → KeepsBacks j (m ∷ ms) (n ∷ ms)
keeps-front j m n ms e f = record {
  same = ap (λ b. cond b (n ∷ backs j ms) (backs j ms)) f ∙ sym (ap (λ b. cond b (m ∷ backs j ms) (backs j ms)) e);
  kept = λ o g c. let d = later-one j m o ms e g c in (suc d.0, omega (arith, d.1), d.2);
}

-- A want that is noted, and whose conflicting holders were all told.

pub all-pass : {A : Type 0} (xs : List A) → filter (λ x. true) xs ≡ xs
all-pass {A} [] = refl
all-pass {A} (x ∷ xs) = ap (λ zs. x ∷ zs) (all-pass xs)

abbrev pub noted-want : Work → ℕ → Hold → List Holder → Want
noted-want j x h cs = record { session = j.session; obj = x; hold = h; told = map told_of cs }

pub not-clear : (ts : Tokens) (s x : ℕ) (h : Hold) (cs : List Holder) → conflicts ts s x h ≡ cs → cs ≢ [] → is_clear ts s x h ≡ false
not-clear ts s x h cs e some = ap (λ gs. is_none (first_holder gs)) e ∙ go cs some
  where
    go : (cs : List Holder) → cs ≢ [] → is_none (first_holder cs) ≡ false
    go [] some = absurd (some refl)
    go (c ∷ cs) some = refl

module _ (j : Work) (x : ℕ) (h : Hold) (cs : List Holder) (ts : Tokens) (same : conflicts ts j.session x h ≡ cs) (some : cs ≢ []) where
  pub nothing-due : actions ts (noted-want j x h cs ∷ []) ≡ []
  nothing-due =
      one-recalled ts (noted-want j x h cs) (not-clear ts j.session x h cs same some)
      ∙ ap (map (recall_of (noted-want j x h cs))) (no-news ts (noted-want j x h cs) cs (λ g. true) refl (same ∙ sym (all-pass cs)))

  pub want-stays : wants_after ts (noted-want j x h cs ∷ []) ≡ noted-want j x h cs ∷ []
  want-stays = one-stays ts (noted-want j x h cs) (not-clear ts j.session x h cs same some) ∙ ap (λ gs. telling gs (noted-want j x h cs) ∷ []) same
