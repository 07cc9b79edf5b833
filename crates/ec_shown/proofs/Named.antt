-- Names stand for one thing each.
use Rattle.std.proofs.Common.{◌≡◌, ℕ, refl, sym, ap, ◌∙◌}
use Rattle.std.specs.Prelude.{codes, eqb, if◌then◌else◌}
use Rattle.ec_base.specs.declared.counter.Counter.{Counter}
use Rattle.ec_base.specs.declared.counter.Counter.TheVariants as counter
use Rattle.ec_history.specs.declared.shown.LimitName.{LimitName}
use Rattle.ec_history.specs.declared.shown.LimitName.TheVariants as limit
use Rattle.ec_words.specs.OfText.Answers.{kind_text}
use Rattle.ec_words.specs.OfText.Lines.{limit_text, counter_text}
use Rattle.ec_volume.specs.declared.image.Kind.{Kind}
use Rattle.ec_volume.specs.declared.image.Kind.TheVariants as kind
use Rattle.ec_words.specs.Rows.{Word}
use Rattle.ec_words.proofs.Named.{hash}
use Rattle.ec_shown.specs.declared.name.Head.{Head}
use Rattle.ec_shown.specs.declared.name.Head.TheVariants as head
use Rattle.ec_shown.specs.declared.name.Said.{Said}
use Rattle.ec_shown.specs.declared.name.Said.TheVariants as said
use Rattle.ec_shown.specs.declared.name.Why.{Why}
use Rattle.ec_shown.specs.declared.name.Why.TheVariants as why
use Rattle.ec_shown.specs.Spelling.{head_name, said_name, why_name}

abbrev pub head_hashed : ℕ → Head
head_hashed n =
    if eqb n (hash (codes "durable")) then head.Durable else if eqb n (hash (codes "ended")) then head.Ended else if eqb n (hash (codes "unseen")) then head.Unseen else if eqb n (hash (codes "told")) then head.Told else if eqb n (hash (codes "crashed")) then head.Crashed else if eqb n (hash (codes "stopped")) then head.Stopped else if eqb n (hash (codes "started")) then head.Started else if eqb n (hash (codes "none")) then head.Nothing else if eqb n (hash (codes "unsettled")) then head.Unsettled else if eqb n (hash (codes "bad")) then head.Bad else if eqb n (hash (codes "disk")) then head.Disk else if eqb n (hash (codes "limit")) then head.Limit else head.Spent

head_back : (x : Head) → head_hashed (hash (head_name x)) ≡ x
head_back head.Durable = refl
head_back head.Ended = refl
head_back head.Unseen = refl
head_back head.Told = refl
head_back head.Crashed = refl
head_back head.Stopped = refl
head_back head.Started = refl
head_back head.Nothing = refl
head_back head.Unsettled = refl
head_back head.Bad = refl
head_back head.Disk = refl
head_back head.Limit = refl
head_back head.Spent = refl

pub head_once : (w : Word) (x y : Head) → w ≡ head_name x → w ≡ head_name y → x ≡ y
head_once w x y e f = sym (head_back x) ∙ ap (λ v. head_hashed (hash v)) (sym e ∙ f) ∙ head_back y

abbrev pub said_hashed : ℕ → Said
said_hashed n =
    if eqb n (hash (codes "waits")) then said.Waits else if eqb n (hash (codes "ok")) then said.Ok else if eqb n (hash (codes "data")) then said.Data else if eqb n (hash (codes "stat")) then said.Stat else if eqb n (hash (codes "names")) then said.Names else if eqb n (hash (codes "refused")) then said.Refused else if eqb n (hash (codes "noroom")) then said.NoRoom else said.Lost

said_back : (x : Said) → said_hashed (hash (said_name x)) ≡ x
said_back said.Waits = refl
said_back said.Ok = refl
said_back said.Data = refl
said_back said.Stat = refl
said_back said.Names = refl
said_back said.Refused = refl
said_back said.NoRoom = refl
said_back said.Lost = refl

pub said_once : (w : Word) (x y : Said) → w ≡ said_name x → w ≡ said_name y → x ≡ y
said_once w x y e f = sym (said_back x) ∙ ap (λ v. said_hashed (hash v)) (sym e ∙ f) ∙ said_back y

abbrev pub why_hashed : ℕ → Why
why_hashed n =
    if eqb n (hash (codes "NotFound")) then why.NotFound else if eqb n (hash (codes "NotDir")) then why.NotDir else if eqb n (hash (codes "IsDir")) then why.IsDir else if eqb n (hash (codes "Exists")) then why.Exists else if eqb n (hash (codes "NotEmpty")) then why.NotEmpty else if eqb n (hash (codes "TooLong")) then why.TooLong else if eqb n (hash (codes "DirFull")) then why.DirFull else if eqb n (hash (codes "Root")) then why.Root else why.Loop

why_back : (x : Why) → why_hashed (hash (why_name x)) ≡ x
why_back why.NotFound = refl
why_back why.NotDir = refl
why_back why.IsDir = refl
why_back why.Exists = refl
why_back why.NotEmpty = refl
why_back why.TooLong = refl
why_back why.DirFull = refl
why_back why.Root = refl
why_back why.Loop = refl

pub why_once : (w : Word) (x y : Why) → w ≡ why_name x → w ≡ why_name y → x ≡ y
why_once w x y e f = sym (why_back x) ∙ ap (λ v. why_hashed (hash v)) (sym e ∙ f) ∙ why_back y

abbrev pub kind_hashed : ℕ → Kind
kind_hashed n =
    if eqb n (hash (codes "file")) then kind.File else kind.Dir

kind_back : (x : Kind) → kind_hashed (hash (kind_text x)) ≡ x
kind_back kind.File = refl
kind_back kind.Dir = refl

pub kind_once : (w : Word) (x y : Kind) → w ≡ kind_text x → w ≡ kind_text y → x ≡ y
kind_once w x y e f = sym (kind_back x) ∙ ap (λ v. kind_hashed (hash v)) (sym e ∙ f) ∙ kind_back y

abbrev pub limit_hashed : ℕ → LimitName
limit_hashed n =
    if eqb n (hash (codes "bytes")) then limit.Bytes else if eqb n (hash (codes "lines")) then limit.Lines else limit.Pending

limit_back : (x : LimitName) → limit_hashed (hash (limit_text x)) ≡ x
limit_back limit.Bytes = refl
limit_back limit.Lines = refl
limit_back limit.Pending = refl

pub limit_once : (w : Word) (x y : LimitName) → w ≡ limit_text x → w ≡ limit_text y → x ≡ y
limit_once w x y e f = sym (limit_back x) ∙ ap (λ v. limit_hashed (hash v)) (sym e ∙ f) ∙ limit_back y

abbrev pub counter_hashed : ℕ → Counter
counter_hashed n =
    if eqb n (hash (codes "Boot")) then counter.Boot else if eqb n (hash (codes "Session")) then counter.Session else if eqb n (hash (codes "Epoch")) then counter.Epoch else if eqb n (hash (codes "Number")) then counter.Number else if eqb n (hash (codes "Op")) then counter.Op else if eqb n (hash (codes "Batch")) then counter.Batch else if eqb n (hash (codes "CallNo")) then counter.CallNo else if eqb n (hash (codes "Ask")) then counter.Ask else if eqb n (hash (codes "Pass")) then counter.Pass else if eqb n (hash (codes "Id")) then counter.Id else counter.Round

counter_back : (x : Counter) → counter_hashed (hash (counter_text x)) ≡ x
counter_back counter.Boot = refl
counter_back counter.Session = refl
counter_back counter.Epoch = refl
counter_back counter.Number = refl
counter_back counter.Op = refl
counter_back counter.Batch = refl
counter_back counter.CallNo = refl
counter_back counter.Ask = refl
counter_back counter.Pass = refl
counter_back counter.Id = refl
counter_back counter.Round = refl

pub counter_once : (w : Word) (x y : Counter) → w ≡ counter_text x → w ≡ counter_text y → x ≡ y
counter_once w x y e f = sym (counter_back x) ∙ ap (λ v. counter_hashed (hash v)) (sym e ∙ f) ∙ counter_back y
