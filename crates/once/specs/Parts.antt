-- No second answer meets the contract of a part: of each public function below the calls and of the programs' parts. As in Once,
-- `C.Post` is the contract as the checker holds the code to it. Assumes nothing.
use Rattle.std.specs.Prelude.{◌≡◌, Bool, ℕ}
use Rattle.std.proofs.Common.{sym, ap, ◌∙◌}
use Rattle.ranking.specs.Key.{Keyed, key_at}
use Rattle.serve.specs.Step.{Ranked}
use Rattle.counts.specs.declared.Counts.{Counts}
use Rattle.replay.specs.declared.Played.{Played}
use Rattle.hexadecimal.specs.Laws.{wrote_once}
use Rattle.refusals.specs.Laws.{told_once}
use Rattle.once.specs.Once.{Once, OnceLeft, Left}
use Rattle.ranking.proofs.default_priority.Reads as ranking_default_priority
use Rattle.refusals.proofs.Refusal.number.Reads as refusals_number
use Rattle.refusals.proofs.number_in.Reads as refusals_number_in
use Rattle.ranking.proofs.key.Reads as ranking_key
use Rattle.ranking.proofs.fixed.Reads as ranking_fixed
use Rattle.ranking.proofs.keys.Reads as ranking_keys
use Rattle.ranking.proofs.page_of.Reads as ranking_page_of
use Rattle.words.proofs.read_u16.Reads as words_read_u16
use Rattle.words.proofs.read_u32.Reads as words_read_u32
use Rattle.words.proofs.write_u32.Reads as words_write_u32
use Rattle.words.proofs.write_list.Reads as words_write_list
use Rattle.words.proofs.write_numbers.Reads as words_write_numbers
use Rattle.words.proofs.read_list.Reads as words_read_list
use Rattle.layers.proofs.first_sinking.Reads as layers_first_sinking
use Rattle.layers.proofs.sink.Reads as layers_sink
use Rattle.layers.proofs.ask.Reads as layers_ask
use Rattle.layers.proofs.pages_in.Reads as layers_pages_in
use Rattle.layers.proofs.alone.Reads as layers_alone
use Rattle.layers.proofs.bounded.Reads as layers_bounded
use Rattle.layers.proofs.wide.Reads as layers_wide
use Rattle.layers.proofs.filled.Reads as layers_filled
use Rattle.layers.proofs.only_from.Reads as layers_only_from
use Rattle.slots.proofs.find.Reads as slots_find
use Rattle.slots.proofs.by_slot.Reads as slots_by_slot
use Rattle.slots.proofs.counts.Reads as slots_counts
use Rattle.slots.proofs.reach.Reads as slots_reach
use Rattle.slots.proofs.lowest.Reads as slots_lowest
use Rattle.slots.proofs.lows.Reads as slots_lows
use Rattle.selection.proofs.selected.Reads as selection_selected
use Rattle.begin.proofs.limits_refusal.Reads as begin_limits_refusal
use Rattle.begin.proofs.refusal.Reads as begin_refusal
use Rattle.begin.proofs.layers_of.Reads as begin_layers_of
use Rattle.begin.proofs.padded.Reads as begin_padded
use Rattle.begin.proofs.default_priorities.Reads as begin_default_priorities
use Rattle.image.proofs.refusal.Reads as image_refusal
use Rattle.image.proofs.layers.Reads as image_layers
use Rattle.image.proofs.slots.Reads as image_slots
use Rattle.image.proofs.priorities.Reads as image_priorities
use Rattle.image.proofs.agree.Reads as image_agree
use Rattle.image.proofs.Parts.write.Reads as image_write
use Rattle.certify.proofs.tables.Reads as certify_tables
use Rattle.serve.proofs.step.Reads as serve_step
use Rattle.counts.proofs.counted.Reads as counts_counted
use Rattle.counts.proofs.new_page.Reads as counts_new_page
use Rattle.counts.proofs.refusal.Reads as counts_refusal
use Rattle.counts.proofs.fit.Reads as counts_fit
use Rattle.counts.proofs.none.Reads as counts_none
use Rattle.run.proofs.Run.in_image.Reads as run_in_image
use Rattle.run.proofs.Run.parts.Reads as run_parts
use Rattle.replay.proofs.play.Reads as replay_play
use Rattle.replay.proofs.misses.Reads as replay_misses
use Rattle.text.proofs.write_number.Reads as text_write_number
use Rattle.text.proofs.UntoldTelling.word.Reads as text_untold_word
use Rattle.text.proofs.UntoldTelling.number.Reads as text_untold_number
use Rattle.text.proofs.MeasuredTelling.word.Reads as text_measured_word
use Rattle.text.proofs.MeasuredTelling.number.Reads as text_measured_number
use Rattle.text.proofs.WrittenTelling.word.Reads as text_written_word
use Rattle.text.proofs.WrittenTelling.number.Reads as text_written_number
use Rattle.text.proofs.tell_line.Reads as text_tell_line
use Rattle.text.proofs.tell_first_line.Reads as text_tell_first_line
use Rattle.text.proofs.tell_last_line.Reads as text_tell_last_line
use Rattle.text.proofs.tell_refused.Reads as text_tell_refused
use Rattle.hexadecimal.proofs.read.Reads as hex_read
use Rattle.hexadecimal.proofs.write.Reads as hex_write
use Rattle.fields.proofs.end_of.Reads as fields_end_of
use Rattle.fields.proofs.words_in.Reads as fields_words_in
use Rattle.fields.proofs.word.Reads as fields_word
use Rattle.fields.proofs.first.Reads as fields_first
use Rattle.fields.proofs.number.Reads as fields_number
use Rattle.fields.proofs.list.Reads as fields_list
use Rattle.fields.proofs.bytes.Reads as fields_bytes
use Rattle.fields.proofs.write_word.Reads as fields_write_word
use Rattle.fields.proofs.write_number.Reads as fields_write_number
use Rattle.fields.proofs.write_list.Reads as fields_write_list
use Rattle.fields.proofs.write_bytes.Reads as fields_write_bytes
use Rattle.player.proofs.buffer.Reads as player_buffer
use Rattle.timed.proofs.timed_replay.Reads as timed_timed_replay
use Rattle.timed.proofs.timed_checked.Reads as timed_timed_checked
use Rattle.timed.proofs.timed_text.Reads as timed_timed_text
use Rattle.asked.proofs.room.Reads as asked_room
use Rattle.asked.proofs.read_number.Reads as asked_read_number
use Rattle.asked.proofs.read_run.Reads as asked_read_run
use Rattle.asked.proofs.read_paged.Reads as asked_read_paged
use Rattle.asked.proofs.read_start.Reads as asked_read_start
use Rattle.answers.proofs.bad.Reads as answers_bad
use Rattle.answers.proofs.refusal.Reads as answers_refusal
use Rattle.answers.proofs.first_word.Reads as answers_first_word
use Rattle.answers.proofs.then_number.Reads as answers_then_number
use Rattle.answers.proofs.then_bytes.Reads as answers_then_bytes
use Rattle.answers.proofs.then_record.Reads as answers_then_record
use Rattle.answers.proofs.event.Reads as answers_event
use Rattle.calls.proofs.start.Reads as calls_start
use Rattle.calls.proofs.request.Reads as calls_request
use Rattle.calls.proofs.trial.Reads as calls_trial
use Rattle.calls.proofs.layer.Reads as calls_layer
use Rattle.calls.proofs.certain.Reads as calls_certain
use Rattle.calls.proofs.selection.Reads as calls_selection
use Rattle.calls.proofs.sound.Reads as calls_sound
use Rattle.files.proofs.fill.Reads as files_fill
use Rattle.files.proofs.look.Reads as files_look
use Rattle.files.proofs.readtrace.Reads as files_readtrace
use Rattle.files.proofs.writetrace.Reads as files_writetrace
use Rattle.files.proofs.readimage.Reads as files_readimage
use Rattle.files.proofs.writeimage.Reads as files_writeimage
use Rattle.files.proofs.serve_board.Reads as files_serve_board
use Rattle.kinds.proofs.answer.Reads as kinds_answer

-- ---- refusals

pub refusals_number_once : Once refusals_number.Post
refusals_number_once κ a x y s t p q = p ∙ sym q

pub refusals_number_in_once : Once refusals_number_in.Post
refusals_number_in_once κ a x y s t p q = p ∙ sym q

-- ---- the ranking

pub ranking_default_priority_once : Once ranking_default_priority.Post
ranking_default_priority_once κ a x y s t p q = p ∙ sym q

pub ranking_key_once : Once ranking_key.Post
ranking_key_once κ a x y s t p q = p ∙ sym q

pub ranking_page_of_once : Once ranking_page_of.Post
ranking_page_of_once κ a x y s t p q = p ∙ sym q

pub ranking_keys_once : Once ranking_keys.Post
ranking_keys_once κ a x y s t p q = p.0 ∙ sym q.0

pub ranking_fixed_once : Once ranking_fixed.Post
ranking_fixed_once κ a x y s t p q = p ∙ sym q

-- ---- numbers in bytes

pub words_read_u16_once : Once words_read_u16.Post
words_read_u16_once κ a x y s t p q = p ∙ sym q

pub words_read_u32_once : Once words_read_u32.Post
words_read_u32_once κ a x y s t p q = p ∙ sym q

pub words_write_u32_once : Left words_write_u32.Post (λ κ s. s.0.now)
words_write_u32_once κ a x y s t p q = p ∙ sym q

pub words_write_list_once : Left words_write_list.Post (λ κ s. s.0.now)
words_write_list_once κ a x y s t p q = p ∙ sym q

pub words_write_numbers_once : Left words_write_numbers.Post (λ κ s. s.0.now)
words_write_numbers_once κ a x y s t p q = p ∙ sym q

-- into an array of any length
pub words_read_list_once : (N : _) (fits : _) → Once (words_read_list.Post N fits)
words_read_list_once N fits κ a x y s t p q = p ∙ sym q

-- ---- layers

pub layers_first_sinking_once : Once layers_first_sinking.Post
layers_first_sinking_once κ a x y s t p q = p ∙ sym q

pub layers_sink_once : Left layers_sink.Post (λ κ s. s.0.now)
layers_sink_once κ a x y s t p q = p ∙ sym q

pub layers_ask_once : Left layers_ask.Post (λ κ s. s.0.now)
layers_ask_once κ a x y s t p q = p ∙ sym q

pub layers_pages_in_once : Once layers_pages_in.Post
layers_pages_in_once κ a x y s t p q = p ∙ sym q

pub layers_bounded_once : Once layers_bounded.Post
layers_bounded_once κ a x y s t p q = p ∙ sym q

pub layers_wide_once : Once layers_wide.Post
layers_wide_once κ a x y s t p q = p.0 ∙ sym q.0

pub layers_filled_once : Once layers_filled.Post
layers_filled_once κ a x y s t p q = p ∙ sym q

-- whatever the entries' type is
pub layers_only_from_once :
    (T : _) (laws : _) (copy : _) (eq : _) (eq_dict : _) (clone : _) (clone_dict : _) →
    Once (layers_only_from.Post T laws copy eq eq_dict clone clone_dict)
layers_only_from_once T laws copy eq eq_dict clone clone_dict κ a x y s t p q = p ∙ sym q

pub layers_alone_once : Once layers_alone.Post
layers_alone_once κ a x y s t p q = p ∙ sym q

-- ---- slots

pub slots_find_once : Once slots_find.Post
slots_find_once κ a x y s t p q = p ∙ sym q

-- For entries of any type.
pub slots_by_slot_once :
    (entry : _) (laws : _) (copied : _) (clone : _) (dict : _) → Once (slots_by_slot.Post entry laws copied clone dict)
slots_by_slot_once entry laws copied clone dict κ a x y s t p q = p ∙ sym q

pub slots_counts_once : Once slots_counts.Post
slots_counts_once κ a x y s t p q = p ∙ sym q

pub slots_reach_once : Once slots_reach.Post
slots_reach_once κ a x y s t p q = p ∙ sym q

pub slots_lowest_once : Once slots_lowest.Post
slots_lowest_once κ a x y s t p q = p ∙ sym q

pub slots_lows_once : Once slots_lows.Post
slots_lows_once κ a x y s t p q = p ∙ sym q

-- ---- the selection

pub selection_selected_once : Once selection_selected.Post
selection_selected_once κ a x y s t p q = p ∙ sym q

-- ---- a start

pub begin_limits_refusal_once : Once begin_limits_refusal.Post
begin_limits_refusal_once κ a x y s t p q = told_once x y (p ∙ sym q)

pub begin_refusal_once : Once begin_refusal.Post
begin_refusal_once κ a x y s t p q = told_once x y (p ∙ sym q)

pub begin_layers_of_once : Once begin_layers_of.Post
begin_layers_of_once κ a x y s t p q = p ∙ sym q

-- for an array of any length
pub begin_padded_once : (N : _) (fits : _) → Once (begin_padded.Post N fits)
begin_padded_once N fits κ a x y s t p q = p ∙ sym q

pub begin_default_priorities_once : Once begin_default_priorities.Post
begin_default_priorities_once κ a x y s t p q = p ∙ sym q

-- ---- an image

pub image_refusal_once : Once image_refusal.Post
image_refusal_once κ a x y s t p q = told_once x y (p ∙ sym q)

pub image_layers_once : Once image_layers.Post
image_layers_once κ a x y s t p q = p ∙ sym q

pub image_slots_once : Once image_slots.Post
image_slots_once κ a x y s t p q = p ∙ sym q

pub image_priorities_once : Once image_priorities.Post
image_priorities_once κ a x y s t p q = p ∙ sym q

pub image_agree_once : Once image_agree.Post
image_agree_once κ a x y s t p q = p ∙ sym q

pub image_write_once : Left image_write.Post (λ κ s. s.1.0.now)
image_write_once κ a x y s t p q = p ∙ sym q

-- ---- soundness of the tables

-- Where the keys stand for a ranking.
pub certify_tables_once :
    (κ : _) (a : _) (x y : _) (s t : _) →
    certify_tables.Post κ a x s →
    certify_tables.Post κ a y t →
    (o : ℕ → ℕ → Bool) →
    Keyed a.1.1.1.0 o (key_at a.1.0.now) →
    x ≡ y
certify_tables_once κ a x y s t p q o w = p o w ∙ sym (q o w)

-- ---- a step of a sound run

-- An event, and what four lent tables hold, where the tables have a ranking before the request and after it.
pub serve_step_once :
    (κ : _) (a : _) (x y : _) (s t : _) →
    serve_step.Post κ a x s →
    serve_step.Post κ a y t →
    (o : ℕ → ℕ → Bool) (key key' : ℕ → ℕ) →
    Ranked a.1.1.1.1.0 a.1.1.1.1.1.0 a.1.1.1.1.1.1.0 o key key' a.0.now a.1.0.now a.1.1.1.0.now a.1.1.1.1.1.1.1.0 →
    (x ≡ y)
    × (s.0.now ≡ t.0.now)
    × (s.1.0.now ≡ t.1.0.now)
    × (s.1.1.0.now ≡ t.1.1.0.now)
    × (s.1.1.1.0.now ≡ t.1.1.1.0.now)
serve_step_once κ a x y s t p q o key key' w =
    let f = p o key key' w in
    let g = q o key key' w in
    let layers = f.layer_is ∙ sym g.layer_is in
    let slots = f.held_is ∙ sym g.held_is in (
      f.event_is ∙ sym g.event_is,
      layers,
      slots,
      f.near_is ∙ rw (layers, slots) (sym g.near_is),
      f.keys_is ∙ rw slots (sym g.keys_is),
    )

-- ---- the counts

pub counts_none_once : Once counts_none.Post
counts_none_once κ a x y s t p q = p ∙ sym q

pub counts_fit_once : Once counts_fit.Post
counts_fit_once κ a x y s t p q = p ∙ sym q

pub counts_refusal_once : Once counts_refusal.Post
counts_refusal_once κ a x y s t p q = told_once x y (p ∙ sym q)

pub counts_new_page_once : Once counts_new_page.Post
counts_new_page_once κ a x y s t p q = p ∙ sym q

pub counts_counted_once : Once counts_counted.Post
counts_counted_once κ a x y s t p q = p ∙ sym q

-- ---- a run

-- Of the references to the tables, what is seen through them.
pub run_parts_once :
    (κ : _) (a : _) (x y : _) (s t : _) →
    run_parts.Post κ a x s →
    run_parts.Post κ a y t →
    (x.pages ≡ y.pages)
    × (x.slots ≡ y.slots)
    × (x.served ≡ y.served)
    × (x.hits ≡ y.hits)
    × (x.misses ≡ y.misses)
    × (x.best ≡ y.best)
    × (x.layer.now ≡ y.layer.now)
    × (x.priority.now ≡ y.priority.now)
    × (x.held.now ≡ y.held.now)
run_parts_once κ a x y s t p q = (
  p.0.0 ∙ sym q.0.0,
  p.0.1 ∙ sym q.0.1,
  p.1.0.0 ∙ sym q.1.0.0,
  p.1.0.1 ∙ sym q.1.0.1,
  p.1.0.2 ∙ sym q.1.0.2,
  p.1.0.3 ∙ sym q.1.0.3,
  p.1.1.0 ∙ sym q.1.1.0,
  p.1.1.1 ∙ sym q.1.1.1,
  p.1.1.2 ∙ sym q.1.1.2,
)

-- Nor is there a second image: the parts of two such answers, written into the same buffer, leave the same in it.
pub run_write_once :
    (κ : _) (a : _) (x y : _) (s t : _) →
    run_parts.Post κ a x s →
    run_parts.Post κ a y t →
    (m : _) (out : _) (i j : _) (u v : _) →
    image_write.Post m (x, (out, tt)) i u →
    image_write.Post m (y, (out, tt)) j v →
    u.1.0.now ≡ v.1.0.now
run_write_once κ a x y s t p q m out i j u v f g =
    let e = run_parts_once κ a x y s t p q in
    f ∙ rw (e.0, e.1, e.2, e.3, e.4, e.5, e.6, e.7, e.8) (sym g)

pub run_in_image_once : Once run_in_image.Post
run_in_image_once κ a x y s t p q = p ∙ sym q

-- ---- a replay

pub replay_play_once : (g : _) (l : _) (h : _) (d : _) → OnceLeft (replay_play.Post g l h d) (λ κ s. s.1.1.1.1.0.now)
replay_play_once g l h d κ a x y s t p q =
    let counts = p.0 ∙ sym q.0 in
    let next = p.1.0 ∙ sym q.1.0 in (
      ap (λ (n : ℕ). played n x.counts) next ∙ ap (played y.next) counts,
      p.1.1 ∙ sym q.1.1,
    )
  where
    played : ℕ → Counts → Played
    played n c = record { next = n; counts = c }

pub replay_misses_once : Once replay_misses.Post
replay_misses_once κ a x y s t p q = p ∙ sym q

-- ---- text

pub text_write_number_once : OnceLeft text_write_number.Post (λ κ s. s.0.now)
text_write_number_once κ a x y s t p q = (p.0 ∙ sym q.0, p.1 ∙ sym q.1)

pub text_untold_word_once : OnceLeft text_untold_word.Post (λ κ s. s.0.now)
text_untold_word_once κ a x y s t p q = (p.0 ∙ sym q.0, p.1 ∙ sym q.1)

pub text_untold_number_once : OnceLeft text_untold_number.Post (λ κ s. s.0.now)
text_untold_number_once κ a x y s t p q = (p.0 ∙ sym q.0, p.1 ∙ sym q.1)

pub text_measured_word_once : OnceLeft text_measured_word.Post (λ κ s. s.0.now)
text_measured_word_once κ a x y s t p q = (p.0 ∙ sym q.0, p.1 ∙ sym q.1)

pub text_measured_number_once : OnceLeft text_measured_number.Post (λ κ s. s.0.now)
text_measured_number_once κ a x y s t p q = (p.0 ∙ sym q.0, p.1 ∙ sym q.1)

pub text_written_word_once : OnceLeft text_written_word.Post (λ κ s. s.0.now)
text_written_word_once κ a x y s t p q = (p.0 ∙ sym q.0, p.1 ∙ sym q.1)

pub text_written_number_once : OnceLeft text_written_number.Post (λ κ s. s.0.now)
text_written_number_once κ a x y s t p q = (p.0 ∙ sym q.0, p.1 ∙ sym q.1)

pub text_tell_line_once : (g : _) (l : _) (h : _) (d : _) → OnceLeft (text_tell_line.Post g l h d) (λ κ s. s.0.now)
text_tell_line_once g l h d κ a x y s t p q = (p.0 ∙ sym q.0, p.1 ∙ sym q.1)

pub text_tell_first_line_once : (g : _) (l : _) (h : _) (d : _) → OnceLeft (text_tell_first_line.Post g l h d) (λ κ s. s.0.now)
text_tell_first_line_once g l h d κ a x y s t p q = (p.0 ∙ sym q.0, p.1 ∙ sym q.1)

pub text_tell_last_line_once : (g : _) (l : _) (h : _) (d : _) → OnceLeft (text_tell_last_line.Post g l h d) (λ κ s. s.0.now)
text_tell_last_line_once g l h d κ a x y s t p q = (p.0 ∙ sym q.0, p.1 ∙ sym q.1)

pub text_tell_refused_once : (g : _) (l : _) (h : _) (d : _) → OnceLeft (text_tell_refused.Post g l h d) (λ κ s. s.0.now)
text_tell_refused_once g l h d κ a x y s t p q = (p.0 ∙ sym q.0, p.1 ∙ sym q.1)

-- ---- hexadecimal digits

pub hex_read_once : OnceLeft hex_read.Post (λ κ s. s.1.0.now)
hex_read_once κ a x y s t p q = (p.0 ∙ sym q.0, p.1 ∙ sym q.1)

pub hex_write_once : OnceLeft hex_write.Post (λ κ s. s.0.now)
hex_write_once κ a x y s t p q = wrote_once p q

-- ---- words of a line

pub fields_end_of_once : Once fields_end_of.Post
fields_end_of_once κ a x y s t p q = p.0 ∙ sym q.0

pub fields_words_in_once : Once fields_words_in.Post
fields_words_in_once κ a x y s t p q = p ∙ sym q

pub fields_word_once :
    (κ : _) (a : _) (x y : _) (s t : _) → fields_word.Post κ a x s → fields_word.Post κ a y t → x.now ≡ y.now
fields_word_once κ a x y s t p q = p ∙ sym q

-- for entries of any type
pub fields_first_once :
    (T : _) (L : _) (κ : _) (a : _) (x y : _) (s t : _) → fields_first.Post T L κ a x s → fields_first.Post T L κ a y t → x.now ≡ y.now
fields_first_once T L κ a x y s t p q = p ∙ sym q

pub fields_number_once : Once fields_number.Post
fields_number_once κ a x y s t p q = p ∙ sym q

pub fields_list_once : OnceLeft fields_list.Post (λ κ s. s.1.0.now)
fields_list_once κ a x y s t p q = (p.0 ∙ sym q.0, p.1 ∙ sym q.1)

pub fields_bytes_once : OnceLeft fields_bytes.Post (λ κ s. s.1.0.now)
fields_bytes_once κ a x y s t p q = (p.0 ∙ sym q.0, p.1 ∙ sym q.1)

pub fields_write_word_once : OnceLeft fields_write_word.Post (λ κ s. s.0.now)
fields_write_word_once κ a x y s t p q = wrote_once p q

pub fields_write_number_once : OnceLeft fields_write_number.Post (λ κ s. s.0.now)
fields_write_number_once κ a x y s t p q = wrote_once p q

pub fields_write_list_once : OnceLeft fields_write_list.Post (λ κ s. s.0.now)
fields_write_list_once κ a x y s t p q = wrote_once p q

pub fields_write_bytes_once : OnceLeft fields_write_bytes.Post (λ κ s. s.0.now)
fields_write_bytes_once κ a x y s t p q = wrote_once p q

-- ---- the trace program

pub player_buffer_once : Once player_buffer.Post
player_buffer_once κ a x y s t p q = p.0 ∙ sym q.0

-- ---- what a benchmark times

pub timed_timed_replay_once : Once timed_timed_replay.Post
timed_timed_replay_once κ a x y s t p q = p ∙ sym q

pub timed_timed_checked_once : Once timed_timed_checked.Post
timed_timed_checked_once κ a x y s t p q = p ∙ sym q

pub timed_timed_text_once : OnceLeft timed_timed_text.Post (λ κ s. s.1.0.now)
timed_timed_text_once κ a x y s t p q = (p.0 ∙ sym q.0, p.1 ∙ sym q.1)

-- ---- what a line asks

-- for entries of any type
pub asked_room_once :
    (T : _) (L : _) (M : _) (N : _) (K : _) (κ : _) (a : _) (x y : _) (s t : _) →
    asked_room.Post T L M N K κ a x s →
    asked_room.Post T L M N K κ a y t →
    x ≡ y
asked_room_once T L M N K κ a x y s t p q = p.0 ∙ sym q.0

pub asked_read_number_once : Once asked_read_number.Post
asked_read_number_once κ a x y s t p q = p ∙ sym q

pub asked_read_run_once : Once asked_read_run.Post
asked_read_run_once κ a x y s t p q = p ∙ sym q

pub asked_read_paged_once : Once asked_read_paged.Post
asked_read_paged_once κ a x y s t p q = p ∙ sym q

pub asked_read_start_once : OnceLeft asked_read_start.Post (λ κ s. s.1.0.now)
asked_read_start_once κ a x y s t p q = (p.0 ∙ sym q.0, p.1 ∙ sym q.1)

-- ---- the words of an answer

pub answers_bad_once : OnceLeft answers_bad.Post (λ κ s. s.0.now)
answers_bad_once κ a x y s t p q = wrote_once p q

pub answers_refusal_once : OnceLeft answers_refusal.Post (λ κ s. s.0.now)
answers_refusal_once κ a x y s t p q = wrote_once p q

pub answers_first_word_once : OnceLeft answers_first_word.Post (λ κ s. s.0.now)
answers_first_word_once κ a x y s t p q = wrote_once p q

pub answers_then_number_once : OnceLeft answers_then_number.Post (λ κ s. s.0.now)
answers_then_number_once κ a x y s t p q = wrote_once p q

pub answers_then_bytes_once : OnceLeft answers_then_bytes.Post (λ κ s. s.0.now)
answers_then_bytes_once κ a x y s t p q = wrote_once p q

pub answers_then_record_once : OnceLeft answers_then_record.Post (λ κ s. s.0.now)
answers_then_record_once κ a x y s t p q = wrote_once p q

pub answers_event_once : OnceLeft answers_event.Post (λ κ s. s.0.now)
answers_event_once κ a x y s t p q = wrote_once p q

-- ---- questions about a run

pub calls_start_once : OnceLeft calls_start.Post (λ κ s. s.1.0.now)
calls_start_once κ a x y s t p q = wrote_once p q

pub calls_request_once : OnceLeft calls_request.Post (λ κ s. s.1.0.now)
calls_request_once κ a x y s t p q = wrote_once p q

pub calls_trial_once : OnceLeft calls_trial.Post (λ κ s. s.1.0.now)
calls_trial_once κ a x y s t p q = wrote_once p q

pub calls_layer_once : OnceLeft calls_layer.Post (λ κ s. s.1.0.now)
calls_layer_once κ a x y s t p q = wrote_once p q

pub calls_certain_once : OnceLeft calls_certain.Post (λ κ s. s.1.0.now)
calls_certain_once κ a x y s t p q = wrote_once p q

pub calls_selection_once : OnceLeft calls_selection.Post (λ κ s. s.1.0.now)
calls_selection_once κ a x y s t p q = wrote_once p q

pub calls_sound_once : OnceLeft calls_sound.Post (λ κ s. s.1.0.now)
calls_sound_once κ a x y s t p q = wrote_once p q

-- ---- questions about frames, files and images

pub files_fill_once : OnceLeft files_fill.Post (λ κ s. s.1.0.now)
files_fill_once κ a x y s t p q = wrote_once p q

pub files_look_once : OnceLeft files_look.Post (λ κ s. s.1.0.now)
files_look_once κ a x y s t p q = wrote_once p q

pub files_readtrace_once : OnceLeft files_readtrace.Post (λ κ s. s.1.0.now)
files_readtrace_once κ a x y s t p q = wrote_once p q

pub files_writetrace_once : OnceLeft files_writetrace.Post (λ κ s. s.1.0.now)
files_writetrace_once κ a x y s t p q = wrote_once p q

pub files_readimage_once : OnceLeft files_readimage.Post (λ κ s. s.1.0.now)
files_readimage_once κ a x y s t p q = wrote_once p q

pub files_writeimage_once : OnceLeft files_writeimage.Post (λ κ s. s.1.0.now)
files_writeimage_once κ a x y s t p q = wrote_once p q

pub files_serve_board_once : OnceLeft files_serve_board.Post (λ κ s. s.1.0.now)
files_serve_board_once κ a x y s t p q = wrote_once p q

-- ---- which question a line is

pub kinds_answer_once : OnceLeft kinds_answer.Post (λ κ s. s.1.0.now)
kinds_answer_once κ a x y s t p q = wrote_once p q
