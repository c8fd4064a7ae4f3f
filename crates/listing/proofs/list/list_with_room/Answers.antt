-- `listing::list::list_with_room` meets its contract. Assumes nothing.
use mathlib.Core.List.{[]}
use Rattle.listing.proofs.Laws.{set_fits, set_length, set_is, some_answer, lists_unread, lists_answer}
use Rattle.listing.proofs.list.list_with_room.Goals as goal

pub returns-in_default : goal.returns-in_default
returns-in_default c = lists_unread _ _ _ _ _ _ _ c.words_of_text.ensures.value c.in_default.is _ (c.text_of_answer.ensures.value, c.text_of_answer.ensures.out_after)

pub slice_bounds-set-end : goal.slice_bounds-set-end
slice_bounds-set-end c = set_fits _ c.args.words.now _ _ _ c.requires c.words_of_text.ensures.value c.words_of_text.ensures.words_after c.in-Some.is

pub slice_bounds-set-end-2 : goal.slice_bounds-set-end-2
slice_bounds-set-end-2 c = set_length _ c.args.words.now _ _ _ c.requires c.words_of_text.ensures.value c.words_of_text.ensures.words_after c.in-Some.is

pub print_answer-requires : goal.print_answer-requires
print_answer-requires c = some_answer _ _ _ [] [] 0 _ _ _ _ (set_is _ c.args.words.now _ _ _ c.requires c.words_of_text.ensures.value c.words_of_text.ensures.words_after c.in-Some.is) c.compile-answer.ensures c.compile-answer.auto.output

pub returns : goal.returns
returns c = lists_answer _ _ _ _ _ _ _ _ _ _ (set_is _ c.args.words.now _ _ _ c.requires c.words_of_text.ensures.value c.words_of_text.ensures.words_after c.in-Some.is) c.compile-answer.ensures c.compile-answer.auto.output c.all_fit.ensures c.print_answer.ensures
