-- Outboxes by their clerks.
use Rattle.std.proofs.Common.{◌≡◌, ◌==◌, ◌≢◌, ◌⊎◌, ℕ, zero, suc, ◌<◌, ◌≤◌, Bool, true, false, cond, List, [], ◌∷◌, ◌++◌, length, Option, Some, None, IfSome, IfNone, Bor, refl, ap, sym, ◌∙◌, inl, arith, eqb-true, eq-eqb, ne_eqb}
use Rattle.std.specs.Prelude.{slice_set, slice_index_or}
use Rattle.std.specs.Slice.{IsItemAt}
use Rattle.ec_base.specs.declared.ids.Age.{Age}
use Rattle.ec_wire.specs.declared.msg.Msg.{Msg}
use Rattle.ec_wire.specs.declared.msg.Msg.TheVariants as msg
use Rattle.ec_servernode.specs.declared.state.Outbox.{Outbox}
use Rattle.ec_servernode.specs.Callers.{hello_in, refusal_of}
use Rattle.ec_servernode.specs.Run.{put, put_all, for_clerk, is_for}
use Rattle.ec_servernode.specs.Node.{queue_at, owner_at}
use Rattle.ec_base.specs.Lists.{first_of}

-- the box at a place
pub box_at : (bs : List Outbox) (c : ℕ) (b : Outbox) → c < length bs → b ≡ slice_index_or bs c b → (b.msgs.items ≡ queue_at bs c) × (b.owner ≡ owner_at bs c)
box_at [] c b l e = absurd (omega arith)
box_at (x ∷ bs) zero b l e = (ap (λ y. y.msgs.items) e, ap (λ y. y.owner) e)
box_at (x ∷ bs) (suc c) b l e = box_at bs c b (omega arith) e

queue_here : (bs : List Outbox) (c : ℕ) (b : Outbox) → c < length bs → queue_at (slice_set bs c b) c ≡ b.msgs.items
queue_here [] c b l = absurd (omega arith)
queue_here (x ∷ bs) zero b l = refl
queue_here (x ∷ bs) (suc c) b l = queue_here bs c b (omega arith)

queue_there : (bs : List Outbox) (i c : ℕ) (b : Outbox) → i ≢ c → queue_at (slice_set bs i b) c ≡ queue_at bs c
queue_there [] i c b ne = refl
queue_there (x ∷ bs) zero zero b ne = absurd (ne refl)
queue_there (x ∷ bs) zero (suc c) b ne = refl
queue_there (x ∷ bs) (suc i) zero b ne = refl
queue_there (x ∷ bs) (suc i) (suc c) b ne = queue_there bs i c b (λ e. ne (ap (λ n. suc n) e))

owner_here : (bs : List Outbox) (c : ℕ) (b : Outbox) → c < length bs → owner_at (slice_set bs c b) c ≡ b.owner
owner_here [] c b l = absurd (omega arith)
owner_here (x ∷ bs) zero b l = refl
owner_here (x ∷ bs) (suc c) b l = owner_here bs c b (omega arith)

owner_there : (bs : List Outbox) (i c : ℕ) (b : Outbox) → i ≢ c → owner_at (slice_set bs i b) c ≡ owner_at bs c
owner_there [] i c b ne = refl
owner_there (x ∷ bs) zero zero b ne = absurd (ne refl)
owner_there (x ∷ bs) zero (suc c) b ne = refl
owner_there (x ∷ bs) (suc i) zero b ne = refl
owner_there (x ∷ bs) (suc i) (suc c) b ne = owner_there bs i c b (λ e. ne (ap (λ n. suc n) e))

differ : (i c : ℕ) → (i == c) ≡ false → i ≢ c
differ i c h e = no (sym h ∙ eq-eqb i c e) where
  no : false ≡ true → ⊥
  no x = cc x

pub queue_set : (bs : List Outbox) (i c : ℕ) (b : Outbox) → i < length bs → queue_at (slice_set bs i b) c ≡ cond (i == c) b.msgs.items (queue_at bs c)
queue_set bs i c b l = on (i == c) refl where
  on : (t : Bool) → (i == c) ≡ t → queue_at (slice_set bs i b) c ≡ cond t b.msgs.items (queue_at bs c)
  on true h = ap (queue_at (slice_set bs i b)) (sym (eqb-true i c h)) ∙ queue_here bs i b l
  on false h = queue_there bs i c b (differ i c h)

pub owner_set : (bs : List Outbox) (i c : ℕ) (b : Outbox) → i < length bs → owner_at (slice_set bs i b) c ≡ cond (i == c) b.owner (owner_at bs c)
owner_set bs i c b l = on (i == c) refl where
  on : (t : Bool) → (i == c) ≡ t → owner_at (slice_set bs i b) c ≡ cond t b.owner (owner_at bs c)
  on true h = ap (owner_at (slice_set bs i b)) (sym (eqb-true i c h)) ∙ owner_here bs i b l
  on false h = owner_there bs i c b (differ i c h)

pub same_at : {A : Type 0} (i c : ℕ) (f : ℕ → A) (x : A) → x ≡ f i → cond (i == c) x (f c) ≡ f c
same_at i c f x e = on (i == c) refl where
  on : (t : Bool) → (i == c) ≡ t → cond t x (f c) ≡ f c
  on true h = e ∙ ap f (eqb-true i c h)
  on false h = refl

-- only this clerk's outbox is another one
pub queue_changed : (bs : List Outbox) (i c : ℕ) (b : Outbox) (f : List Msg → List Msg) → i < length bs → b.msgs.items ≡ f (queue_at bs i) → queue_at (slice_set bs i b) c ≡ cond (i == c) (f (queue_at bs c)) (queue_at bs c)
queue_changed bs i c b f l e = queue_set bs i c b l ∙ on (i == c) refl where
  on : (t : Bool) → (i == c) ≡ t → cond t b.msgs.items (queue_at bs c) ≡ cond t (f (queue_at bs c)) (queue_at bs c)
  on true h = e ∙ ap (λ k. f (queue_at bs k)) (eqb-true i c h)
  on false h = refl

pub queue_same : (bs : List Outbox) (i c : ℕ) (b : Outbox) → i < length bs → b.msgs.items ≡ queue_at bs i → queue_at (slice_set bs i b) c ≡ queue_at bs c
queue_same bs i c b l e = queue_set bs i c b l ∙ same_at i c (queue_at bs) b.msgs.items e

pub owner_same : (bs : List Outbox) (i c : ℕ) (b : Outbox) → i < length bs → b.owner ≡ owner_at bs i → owner_at (slice_set bs i b) c ≡ owner_at bs c
owner_same bs i c b l e = owner_set bs i c b l ∙ same_at i c (owner_at bs) b.owner e

-- one message put, by the messages to each clerk
pub put_one : (t : Bool) (q : List Msg) (m : Msg) (p : List Msg) → p ≡ put_all q (m ∷ []) → cond t p q ≡ put_all q (cond t (m ∷ []) [])
put_one true q m p e = e
put_one false q m p e = refl

pub put_all-append : (q xs ys : List Msg) → put_all q (xs ++ ys) ≡ put_all (put_all q xs) ys
put_all-append q [] ys = refl
put_all-append q (x ∷ xs) ys = put_all-append (put_all q (x ∷ [])) xs ys

pub for_clerk-append : (c : ℕ) (xs ys : List (ℕ × Msg)) → for_clerk c (xs ++ ys) ≡ for_clerk c xs ++ for_clerk c ys
for_clerk-append c [] ys = refl
for_clerk-append c (x ∷ xs) ys = on (x.0 == c) (for_clerk-append c xs ys) where
  on : (t : Bool) → for_clerk c (xs ++ ys) ≡ for_clerk c xs ++ for_clerk c ys → cond t (x.1 ∷ for_clerk c (xs ++ ys)) (for_clerk c (xs ++ ys)) ≡ cond t (x.1 ∷ for_clerk c xs) (for_clerk c xs) ++ for_clerk c ys
  on true e = ap (λ l. x.1 ∷ l) e
  on false e = e

-- the next message of those that are still to be put
pub put_next : (c : ℕ) (q p : List Msg) (x : ℕ × Msg) (rest : List (ℕ × Msg)) → p ≡ put_all q (for_clerk c (x ∷ [])) → put_all p (for_clerk c rest) ≡ put_all q (for_clerk c (x ∷ rest))
put_next c q p x rest e = ap (λ l. put_all l (for_clerk c rest)) e ∙ (sym (put_all-append q (for_clerk c (x ∷ [])) (for_clerk c rest)) ∙ ap (put_all q) (sym (for_clerk-append c (x ∷ []) rest)))

-- the first element of a queue
first_read : (q : List Msg) (m : Msg) → zero < length q → m ≡ slice_index_or q zero m → first_of q ≡ Some m
first_read [] m l e = absurd (omega arith)
first_read (x ∷ q) m l e = ap Some (sym e)

empty_read : (q : List Msg) → length q ≤ zero → q ≡ []
empty_read [] l = refl
empty_read (x ∷ q) l = absurd (omega arith)

-- whose an outbox is
pub for_some : (owner pass : ℕ) → (owner ≡ pass → ⊥) → is_for pass (Some owner) ≡ false
for_some owner pass ne = ne_eqb owner pass ne

-- one message more in the outbox of this clerk
pub put_changed : (bs : List Outbox) (i clerk c : ℕ) (b : Outbox) (m : Msg) → i < length bs → i ≡ clerk → b.msgs.items ≡ put (queue_at bs i) m → queue_at (slice_set bs i b) c ≡ put_all (queue_at bs c) (cond (clerk == c) (m ∷ []) [])
put_changed bs i clerk c b m l is e = queue_changed bs i c b (λ q. put q m) l e ∙ (ap (λ n. cond (n == c) (put (queue_at bs c) m) (queue_at bs c)) is ∙ put_one (clerk == c) (queue_at bs c) m (put (queue_at bs c) m) refl)

-- the first message of a queue, by what `front` says
module _ (bs : List Outbox) (i clerk pass : ℕ) (b : Outbox) (is : i ≡ clerk) (at : (b.msgs.items ≡ queue_at bs i) × (b.owner ≡ owner_at bs i)) where
  queue_is : b.msgs.items ≡ queue_at bs clerk
  queue_is = at.0 ∙ ap (queue_at bs) is

  pub next_some : (o : Option (Bor Msg)) → is_for pass b.owner ≡ true → IsItemAt b.msgs.items zero o → IfSome o (λ m. (is_for pass (owner_at bs clerk) ≡ true) × (first_of (queue_at bs clerk) ≡ Some m.now))
  next_some None mine item = tt
  next_some (Some m) mine item = (sym (ap (is_for pass) (at.1 ∙ ap (owner_at bs) is)) ∙ mine, sym (ap first_of queue_is) ∙ first_read b.msgs.items m.now item.3.0 item.1)

  pub next_none : (o : Option (Bor Msg)) → IsItemAt b.msgs.items zero o → IfNone o ((queue_at bs clerk ≡ []) ⊎ (is_for pass (owner_at bs clerk) ≡ false))
  next_none None item = inl (sym queue_is ∙ empty_read b.msgs.items item.3)
  next_none (Some m) item = tt

-- a message that is no Hello tells no clerk
pub no_hello : (m : Msg) → ((c : ℕ) (age : Age) → m ≡ msg.Hello c age → ⊥) → hello_in m ≡ None
no_hello (msg.Hello c age) never = absurd (never c age refl)
no_hello (msg.Want a b c d e) never = refl
no_hello (msg.Back a b c d e) never = refl
no_hello (msg.Flush a b c d) never = refl
no_hello (msg.Room a b c d) never = refl
no_hello (msg.Claim a b c) never = refl
no_hello (msg.Bye a b) never = refl
no_hello (msg.Opened a b c) never = refl
no_hello (msg.Grant a b c d e f) never = refl
no_hello (msg.Recall a b c d e) never = refl
no_hello (msg.Kept a b c) never = refl
no_hello (msg.Ids a b c d e) never = refl
no_hello (msg.NoRoom a b c d e) never = refl
no_hello (msg.Ended a b c) never = refl
no_hello (msg.Restarted a b) never = refl
no_hello (msg.OldBoot a b) never = refl

-- a message that is no OldBoot is no refusal
pub no_refusal : (m : Msg) → ((asked greatest : Age) → m ≡ msg.OldBoot asked greatest → ⊥) → refusal_of m ≡ None
no_refusal (msg.OldBoot asked greatest) never = absurd (never asked greatest refl)
no_refusal (msg.Hello a b) never = refl
no_refusal (msg.Want a b c d e) never = refl
no_refusal (msg.Back a b c d e) never = refl
no_refusal (msg.Flush a b c d) never = refl
no_refusal (msg.Room a b c d) never = refl
no_refusal (msg.Claim a b c) never = refl
no_refusal (msg.Bye a b) never = refl
no_refusal (msg.Opened a b c) never = refl
no_refusal (msg.Grant a b c d e f) never = refl
no_refusal (msg.Recall a b c d e) never = refl
no_refusal (msg.Kept a b c) never = refl
no_refusal (msg.Ids a b c d e) never = refl
no_refusal (msg.NoRoom a b c d e) never = refl
no_refusal (msg.Ended a b c) never = refl
no_refusal (msg.Restarted a b) never = refl

-- one outbox more, with nothing in it
pub push_empty : (bs : List Outbox) (b : Outbox) → ((c : ℕ) → (queue_at bs c ≡ []) × (owner_at bs c ≡ None)) → b.msgs.items ≡ [] → b.owner ≡ None → (c : ℕ) → (queue_at (bs ++ b ∷ []) c ≡ []) × (owner_at (bs ++ b ∷ []) c ≡ None)
push_empty [] b h e o zero = (e, o)
push_empty [] b h e o (suc c) = (refl, refl)
push_empty (x ∷ bs) b h e o zero = h zero
push_empty (x ∷ bs) b h e o (suc c) = push_empty bs b (λ k. h (suc k)) e o c
