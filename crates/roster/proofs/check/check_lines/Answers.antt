-- `check_lines` meets its contract.
use borrow.Author.Rules.{rules}
use Prim.Native.Nat.{◌-◌}
use lib.ListN.{length, take, drop}
use Rattle.roster.proofs.Laws.{start_inside, part_length, part_short, set_unread, set_fits, set_is, values_unread, values_fit, values_are, tells_unread_set, tells_unread_values, tells_checked}
use Rattle.roster.proofs.check.check_lines.Goals as goal

pub slice_bounds-words_of_text-end : goal.slice_bounds-words_of_text-end
slice_bounds-words_of_text-end c = part_length c.line_start-a.result c.args.lines.now (start_inside c.args.lines.now c.line_start-a.result c.line_start-a.ensures)

pub returns-in_default : goal.returns-in_default
returns-in_default c = tells_unread_set c.args.lines.now c.args.work.now _ _ _ c.line_start-a.result c.line_start-a.ensures c.requires.clean (set_unread (take c.line_start-a.result c.args.lines.now) c.args.words.now _ _ c.requires.set c.words_of_text.ensures.value c.words_of_text.ensures.words_after c.in_default.is) c.put_bytes.ensures

pub slice_bounds-read_values-count : goal.slice_bounds-read_values-count
slice_bounds-read_values-count c = (start_inside c.args.lines.now c.line_start-a.result c.line_start-a.ensures)

pub slice_bounds-read_values-start : goal.slice_bounds-read_values-start
slice_bounds-read_values-start c = let q = (start_inside c.args.lines.now c.line_start-a.result c.line_start-a.ensures) in search rules

pub read_values-requires : goal.read_values-requires
read_values-requires c = part_short c.line_start-a.result c.args.lines.now c.requires.short

pub returns-in_default-read_values : goal.returns-in_default-read_values
returns-in_default-read_values c = tells_unread_values c.args.lines.now c.args.work.now _ _ _ c.line_start-a.result c.line_start-a.ensures c.requires.clean _ (set_is (take c.line_start-a.result c.args.lines.now) c.args.words.now _ _ c.requires.set c.words_of_text.ensures.value c.words_of_text.ensures.words_after _ c.in-Some.is) (values_unread (take (length c.args.lines.now - c.line_start-a.result) (drop c.line_start-a.result c.args.lines.now)) c.args.values.now _ _ (part_short c.line_start-a.result c.args.lines.now c.requires.short) c.requires.roster c.read_values.ensures c.in_default-read_values.is) c.put_bytes-in_default-read_values.ensures

pub slice_bounds-check_roster-end : goal.slice_bounds-check_roster-end
slice_bounds-check_roster-end c = set_fits (take c.line_start-a.result c.args.lines.now) c.args.words.now _ _ c.requires.set c.words_of_text.ensures.value c.words_of_text.ensures.words_after _ c.in-Some.is

pub slice_bounds-check_roster-end-2 : goal.slice_bounds-check_roster-end-2
slice_bounds-check_roster-end-2 c = part_length _ _ (set_fits (take c.line_start-a.result c.args.lines.now) c.args.words.now _ _ c.requires.set c.words_of_text.ensures.value c.words_of_text.ensures.words_after _ c.in-Some.is)

pub slice_bounds-check_roster-end-3 : goal.slice_bounds-check_roster-end-3
slice_bounds-check_roster-end-3 c = values_fit (take (length c.args.lines.now - c.line_start-a.result) (drop c.line_start-a.result c.args.lines.now)) c.args.values.now _ _ (part_short c.line_start-a.result c.args.lines.now c.requires.short) c.requires.roster c.read_values.ensures _ c.in-Some-read_values.is

pub slice_bounds-check_roster-end-4 : goal.slice_bounds-check_roster-end-4
slice_bounds-check_roster-end-4 c = part_length _ _ (values_fit (take (length c.args.lines.now - c.line_start-a.result) (drop c.line_start-a.result c.args.lines.now)) c.args.values.now _ _ (part_short c.line_start-a.result c.args.lines.now c.requires.short) c.requires.roster c.read_values.ensures _ c.in-Some-read_values.is)

pub returns : goal.returns
returns c = tells_checked c.args.lines.now c.args.work.now _ _ _ c.line_start-a.result c.line_start-a.ensures c.requires.clean _ (set_is (take c.line_start-a.result c.args.lines.now) c.args.words.now _ _ c.requires.set c.words_of_text.ensures.value c.words_of_text.ensures.words_after _ c.in-Some.is) _ (values_are (take (length c.args.lines.now - c.line_start-a.result) (drop c.line_start-a.result c.args.lines.now)) c.args.values.now _ _ (part_short c.line_start-a.result c.args.lines.now c.requires.short) c.requires.roster c.read_values.ensures _ c.in-Some-read_values.is) _ _ c.check_roster-answer.ensures c.put_checked.ensures
