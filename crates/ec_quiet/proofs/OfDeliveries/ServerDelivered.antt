-- Each message for the server leads from a phase to a phase.
use Rattle.std.proofs.Common.{◌≡◌, refl, sym, ap, subst, ◌∙◌, ℕ, Bool, true, false, [], ◌∷◌}
use Rattle.std.proofs.lemmas.Bool.{true≢false}
use Rattle.ec_wire.specs.declared.msg.Msg.{Msg}
use Rattle.ec_wire.specs.declared.msg.Msg.TheVariants as msg
use Rattle.ec_protocol.specs.Server.{serving, is_last_number}
use Rattle.ec_quiet.specs.Phases.{Phase, Greets, Opens, Claims, Wants, Recalls, Flushes, Keeps, Grants, Asks, Gives, Refuses, Saves, Saved, Ends, InPhase, main, messages, is_back}
use Rattle.ec_quiet.specs.Scenes.{Mail, Scene, delivered, is_for_server}
use Rattle.ec_quiet.specs.Works.{Work}
use Rattle.ec_quiet.proofs.OfDeliveries.Claimed.{claims-delivered}
use Rattle.ec_quiet.proofs.OfDeliveries.Wanted.{wants-delivered}
use Rattle.ec_quiet.proofs.OfDeliveries.Working.{main-front}
use Rattle.ec_quiet.specs.OfDeliveries.Coming.{IsNext, Suits}
use Rattle.ec_quiet.proofs.OfDeliveries.Returning.{backs-come-back}
use Rattle.ec_quiet.proofs.OfDeliveries.Committed.{holders-flush, clerks-save}
use Rattle.ec_quiet.proofs.OfDeliveries.IdsGiven.{ids-answered}
use Rattle.ec_quiet.proofs.OfDeliveries.Greeted.{greetings-open}
use Rattle.ec_quiet.proofs.OfDeliveries.Staying.{old-tokens-leave}
use Rattle.ec_quiet.specs.Goes.{GoesOn}

pub head-same : (a b : ℕ × Msg) (more others : Mail) → a ∷ more ≡ b ∷ others → a ≡ b
head-same a b more others e = cc

pub none-first : (b : ℕ × Msg) (bs : Mail) → ◌≡◌ {A = Mail} [] (b ∷ bs) → ⊥
none-first b bs e = cc

-- in the phase that is told
pub comes : (j : Work) (sc : Scene) (p : Phase) (after : Scene) (q : Phase) → IsNext j sc p after q → GoesOn j sc p after
comes j sc p after q n = (q, n.0, n.1)

module _ (j : Work) (sc : Scene) (m : ℕ × Msg) (rest : Mail) (server : is_for_server m.1 ≡ true) (counts : is_last_number (serving sc.server) ≡ false) (suits : Suits m.0 m.1 sc.server) (mail : sc.mail ≡ m ∷ rest) where
  -- the first message of the phase is the one that's delivered
  abbrev IsFirst : Phase → Type 0
  IsFirst p = messages j sc p ≡ m ∷ main j rest

  module _ (a : ℕ × Msg) (more : Mail) (e : a ∷ more ≡ m ∷ main j rest) where
    same : a ≡ m
    same = head-same a m more (main j rest) e

    first-mail : sc.mail ≡ a ∷ rest
    first-mail = mail ∙ ap (λ z. z ∷ rest) (sym same)

    suited : Suits a.0 a.1 sc.server
    suited = subst (λ z. Suits z.0 z.1 sc.server) (sym same) suits

    goes : (p : Phase) → GoesOn j sc p (delivered a.0 a.1 rest sc) → GoesOn j sc p (delivered m.0 m.1 rest sc)
    goes p g = subst (λ z. GoesOn j sc p (delivered z.0 z.1 rest sc)) same g

    not-here : is_for_server a.1 ≡ false → (p : Phase) → GoesOn j sc p (delivered m.0 m.1 rest sc)
    not-here f p = absurd (true≢false (sym server ∙ ap (λ z. is_for_server z.1) (sym same) ∙ f))

  by-phase : (p : Phase) → InPhase j sc p → IsFirst p → GoesOn j sc p (delivered m.0 m.1 rest sc)
  by-phase (Greets age) ip e =
      let a : ℕ × Msg = (j.clerk, msg.Hello j.clerk age) in
      goes a [] e (Greets age) (comes j sc (Greets age) _ (Opens age) (greetings-open j sc age rest ip (suited a [] e) (first-mail a [] e)))
  by-phase (Opens age) ip e = not-here (j.clerk, msg.Opened age j.session sc.server.durable.epoch) [] e refl (Opens age)
  by-phase (Claims o) ip e = goes _ _ e (Claims o) (claims-delivered j sc o rest ip (first-mail _ _ e))
  by-phase (Wants x h n) ip e = goes _ _ e (Wants x h n) (wants-delivered j sc x h n rest ip counts (first-mail _ _ e))
  by-phase (Recalls x h (r ∷ rs) bs) ip e = not-here _ _ e refl (Recalls x h (r ∷ rs) bs)
  by-phase (Recalls x h [] []) ip e = absurd (none-first m (main j rest) e)
  by-phase (Recalls x h [] (b ∷ bs)) ip e = goes _ _ e (Recalls x h [] (b ∷ bs)) (backs-come-back j sc x h b bs rest ip counts (first-mail _ _ e))
  by-phase (Flushes x h r b ops more) ip e = goes _ _ e (Flushes x h r b ops more) (comes j sc (Flushes x h r b ops more) _ (Keeps x h r b more) (holders-flush j sc x h r b ops more rest ip (suited _ _ e) (first-mail _ _ e)))
  by-phase (Keeps x h r b more) ip e = not-here _ _ e refl (Keeps x h r b more)
  by-phase (Grants x h n) ip e = not-here _ _ e refl (Grants x h n)
  by-phase (Asks again got ask) ip e = goes _ _ e (Asks again got ask) (ids-answered j sc again got ask rest ip counts (suited _ _ e) (first-mail _ _ e))
  by-phase (Gives got n first) ip e = not-here _ _ e refl (Gives got n first)
  by-phase (Refuses again ask live reserved) ip e = not-here _ _ e refl (Refuses again ask live reserved)
  by-phase (Saves b ops more) ip e = goes _ _ e (Saves b ops more) (comes j sc (Saves b ops more) _ (Saved b more) (clerks-save j sc b ops more rest ip (suited _ _ e) (first-mail _ _ e)))
  by-phase (Saved b more) ip e = not-here _ _ e refl (Saved b more)
  by-phase Ends ip e = absurd (none-first m (main j rest) e)

pub deliveries-go-on : (j : Work) (sc : Scene) (p : Phase) (m : ℕ × Msg) (rest : Mail) → InPhase j sc p → is_for_server m.1 ≡ true → is_last_number (serving sc.server) ≡ false → Suits m.0 m.1 sc.server → sc.mail ≡ m ∷ rest
    → GoesOn j sc p (delivered m.0 m.1 rest sc)
deliveries-go-on j sc p m rest ip server counts suits mail = go (is_back j m) refl
  where
    go : (b : Bool) → is_back j m ≡ b → GoesOn j sc p (delivered m.0 m.1 rest sc)
    go true own = comes j sc p _ p (old-tokens-leave j sc p m rest ip own mail)
    go false own = by-phase j sc m rest server counts suits mail p ip (sym ip.main_is ∙ ap (main j) mail ∙ main-front j m rest own)
