-- No second answer meets a contract. `C.Post κ a x s` is the contract of the call C, word for word as the checker holds its code
-- to it: κ the lifetimes, a what the call is given, x its answer, s what was lent, at exit. Assumes nothing.
use Rattle.std.specs.Prelude.{List, ◌≡◌, ℕ}
use Rattle.std.proofs.Common.{sym, ◌∙◌}
use Rattle.refusals.specs.Laws.{told_once}
use Rattle.run.proofs.Run.blank.Reads as blank
use Rattle.run.proofs.Run.start.Reads as start
use Rattle.run.proofs.Run.start_default.Reads as start_default
use Rattle.run.proofs.Run.request.Reads as request
use Rattle.run.proofs.Run.trial.Reads as trial
use Rattle.run.proofs.Run.layer.Reads as layer
use Rattle.run.proofs.Run.certain.Reads as certain
use Rattle.run.proofs.Run.selection.Reads as selection
use Rattle.run.proofs.Run.is_sound.Reads as is_sound
use Rattle.run.proofs.Run.restore.Reads as restore
use Rattle.run.proofs.Run.store.Reads as store
use Rattle.run.proofs.Run.request_in.Reads as request_in
use Rattle.frames.proofs.fill.Reads as fill
use Rattle.frames.proofs.look.Reads as look
use Rattle.frames.proofs.look_refusal.Reads as look_refusal
use Rattle.trace.proofs.read.Reads as read
use Rattle.trace.proofs.request_at.Reads as request_at
use Rattle.trace.proofs.write.Reads as write
use Rattle.trace.proofs.write_default.Reads as write_default
use Rattle.board.proofs.unpack.Reads as unpack
use Rattle.board.proofs.timonedra_serve.Reads as timonedra_serve
use Rattle.player.proofs.answer.Reads as answer

-- Two answers that meet a contract for the same input are equal.
abbrev pub Once : {L : Type 0} {A R S : L → Type 0} → ((κ : L) → A κ → R κ → S κ → Type 0) → Type 0
Once {L} {A} {R} {S} P = (κ : L) (a : A κ) (x y : R κ) (s t : S κ) → P κ a x s → P κ a y t → x ≡ y

-- And so is what two such calls leave in a lent buffer.
abbrev pub OnceLeft :
    {L : Type 0} {A R S : L → Type 0} → ((κ : L) → A κ → R κ → S κ → Type 0) → ((κ : L) → S κ → List ℕ) → Type 0
OnceLeft {L} {A} {R} {S} P buffer =
    (κ : L) (a : A κ) (x y : R κ) (s t : S κ) → P κ a x s → P κ a y t → (x ≡ y) × (buffer κ s ≡ buffer κ t)

-- What two calls that answer nothing leave in a lent buffer.
abbrev pub Left :
    {L : Type 0} {A R S : L → Type 0} → ((κ : L) → A κ → R κ → S κ → Type 0) → ((κ : L) → S κ → List ℕ) → Type 0
Left {L} {A} {R} {S} P buffer = (κ : L) (a : A κ) (x y : R κ) (s t : S κ) → P κ a x s → P κ a y t → buffer κ s ≡ buffer κ t

-- ---- a run

pub blank_once : Once blank.Post
blank_once κ a x y s t p q = p ∙ sym q

pub start_once : Once start.Post
start_once κ a x y s t p q = p ∙ sym q

pub start_default_once : Once start_default.Post
start_default_once κ a x y s t p q = p ∙ sym q

pub request_once : Once request.Post
request_once κ a x y s t p q = p.0 ∙ sym q.0

pub trial_once : Once trial.Post
trial_once κ a x y s t p q = p.0 ∙ sym q.0

pub layer_once : Once layer.Post
layer_once κ a x y s t p q = p ∙ sym q

pub certain_once : Once certain.Post
certain_once κ a x y s t p q = p ∙ sym q

pub selection_once : Once selection.Post
selection_once κ a x y s t p q = p ∙ sym q

pub is_sound_once : Once is_sound.Post
is_sound_once κ a x y s t p q = p ∙ sym q

-- ---- a stored run

pub restore_once : Once restore.Post
restore_once κ a x y s t p q = p.0 ∙ sym q.0

pub request_in_once : Once request_in.Post
request_in_once κ a x y s t p q = p ∙ sym q

pub store_once : OnceLeft store.Post (λ κ s. s.1.0.now)
store_once κ a x y s t p q = (p.0 ∙ sym q.0, p.1 ∙ sym q.1)

-- ---- frames. Of what Look hands back, the bytes: a contract names no address.

pub fill_once : OnceLeft fill.Post (λ κ s. s.1.1.0.now)
fill_once κ a x y s t p q = (told_once x y (p.0 ∙ sym q.0), p.1 ∙ sym q.1)

pub look_once :
    (κ : _) (a : _) (x y : _) (s t : _) → look.Post κ a x s → look.Post κ a y t → x.now ≡ y.now
look_once κ a x y s t p q = p ∙ sym q

pub look_refusal_once : Once look_refusal.Post
look_refusal_once κ a x y s t p q = told_once x y (p ∙ sym q)

-- ---- traces

pub read_once : Once read.Post
read_once κ a x y s t p q = p ∙ sym q

pub request_at_once : Once request_at.Post
request_at_once κ a x y s t p q = p ∙ sym q

pub write_once : OnceLeft write.Post (λ κ s. s.1.1.1.1.1.0.now)
write_once κ a x y s t p q = (p.0 ∙ sym q.0, p.1 ∙ sym q.1)

pub write_default_once : OnceLeft write_default.Post (λ κ s. s.1.1.1.1.0.now)
write_default_once κ a x y s t p q = (p.0 ∙ sym q.0, p.1 ∙ sym q.1)

-- ---- the trace program's answer

pub answer_once : OnceLeft answer.Post (λ κ s. s.1.0.now)
answer_once κ a x y s t p q = (p.0 ∙ sym q.0, p.1 ∙ sym q.1)

-- ---- the board

pub timonedra_serve_once : OnceLeft timonedra_serve.Post (λ κ s. s.0.now)
timonedra_serve_once κ a x y s t p q = (p.0 ∙ sym q.0, p.1 ∙ sym q.1)

pub unpack_once : Once unpack.Post
unpack_once κ a x y s t p q = p ∙ sym q
