-- Sheets of small answers read back, by computing. Assumes nothing.
use Rattle.std.specs.Prelude.{◌≡◌, refl, [], ◌∷◌, pos, negsuc}
use Rattle.std.proofs.Math.Option.{some}
use Rattle.decimal.specs.Decimal.{print_steps, print_natural, print_number, read_digits, read_natural}
use Rattle.input.specs.ReadText.{split}
use Rattle.lines.specs.Lines.{print_more, print_numbers, times, print_comparison, print_comparisons, print_clause}
use Rattle.readback.specs.ReadListing.{read_integer, read_integers, read_part, read_comparison, read_comparisons}
use Rattle.page.specs.Sheet.{pair_parts, in_front, comparison_item, comparison_items, clause_items, put, turn, fresh, place_part, place_parts, place_item, place_items, numbered, all_lines, sheet_lines, full, print_sheet}
use Rattle.sheetback.specs.ReadSheet.{tokens, ends_open, glued, read_items, goes_on, line_tokens, grouped, read_clauses, read_sheet}

pub P1_back : read_sheet (print_sheet (pos 3 ∷ pos 3 ∷ pos 1 ∷ negsuc 1 ∷ negsuc 2 ∷ pos 0 ∷ pos 2 ∷ pos 2 ∷ negsuc 0 ∷ pos 0 ∷ pos 2 ∷ pos 3 ∷ negsuc 0 ∷ pos 0 ∷ [])) ≡ some (pos 3 ∷ pos 3 ∷ pos 1 ∷ negsuc 1 ∷ negsuc 2 ∷ pos 0 ∷ pos 2 ∷ pos 2 ∷ negsuc 0 ∷ pos 0 ∷ pos 2 ∷ pos 3 ∷ negsuc 0 ∷ pos 0 ∷ [])
unfolding print_steps print_natural print_number print_more print_numbers times print_comparison print_comparisons print_clause pair_parts in_front comparison_item comparison_items clause_items put turn fresh place_part place_parts place_item place_items numbered all_lines sheet_lines full print_sheet split read_digits read_natural read_integer read_integers read_part read_comparison read_comparisons tokens ends_open glued read_items goes_on line_tokens grouped read_clauses read_sheet
P1_back = refl

pub P9_back : read_sheet (print_sheet (pos 1 ∷ pos 0 ∷ pos 2 ∷ pos 0 ∷ pos 0 ∷ pos 1 ∷ pos 0 ∷ pos 1 ∷ pos 0 ∷ negsuc 1 ∷ pos 1 ∷ pos 0 ∷ pos 1 ∷ [])) ≡ some (pos 1 ∷ pos 0 ∷ pos 2 ∷ pos 0 ∷ pos 0 ∷ pos 1 ∷ pos 0 ∷ pos 1 ∷ pos 0 ∷ negsuc 1 ∷ pos 1 ∷ pos 0 ∷ pos 1 ∷ [])
unfolding print_steps print_natural print_number print_more print_numbers times print_comparison print_comparisons print_clause pair_parts in_front comparison_item comparison_items clause_items put turn fresh place_part place_parts place_item place_items numbered all_lines sheet_lines full print_sheet split read_digits read_natural read_integer read_integers read_part read_comparison read_comparisons tokens ends_open glued read_items goes_on line_tokens grouped read_clauses read_sheet
P9_back = refl

pub none_back : read_sheet (print_sheet (pos 0 ∷ [])) ≡ some (pos 0 ∷ [])
unfolding print_steps print_natural print_number print_more print_numbers times print_comparison print_comparisons print_clause pair_parts in_front comparison_item comparison_items clause_items put turn fresh place_part place_parts place_item place_items numbered all_lines sheet_lines full print_sheet split read_digits read_natural read_integer read_integers read_part read_comparison read_comparisons tokens ends_open glued read_items goes_on line_tokens grouped read_clauses read_sheet
none_back = refl

pub long_back : read_sheet (print_sheet (pos 2 ∷ pos 0 ∷ pos 0 ∷ pos 1 ∷ pos 5 ∷ pos 2 ∷ pos 2 ∷ negsuc 11 ∷ pos 11 ∷ pos 10 ∷ negsuc 9 ∷ pos 11 ∷ negsuc 10 ∷ pos 12 ∷ negsuc 11 ∷ pos 13 ∷ negsuc 12 ∷ pos 14 ∷ negsuc 13 ∷ pos 15 ∷ negsuc 14 ∷ pos 16 ∷ negsuc 15 ∷ pos 17 ∷ negsuc 16 ∷ pos 18 ∷ negsuc 17 ∷ pos 19 ∷ negsuc 18 ∷ pos 20 ∷ negsuc 19 ∷ pos 0 ∷ pos 1 ∷ pos 0 ∷ [])) ≡ some (pos 2 ∷ pos 0 ∷ pos 0 ∷ pos 1 ∷ pos 5 ∷ pos 2 ∷ pos 2 ∷ negsuc 11 ∷ pos 11 ∷ pos 10 ∷ negsuc 9 ∷ pos 11 ∷ negsuc 10 ∷ pos 12 ∷ negsuc 11 ∷ pos 13 ∷ negsuc 12 ∷ pos 14 ∷ negsuc 13 ∷ pos 15 ∷ negsuc 14 ∷ pos 16 ∷ negsuc 15 ∷ pos 17 ∷ negsuc 16 ∷ pos 18 ∷ negsuc 17 ∷ pos 19 ∷ negsuc 18 ∷ pos 20 ∷ negsuc 19 ∷ pos 0 ∷ pos 1 ∷ pos 0 ∷ [])
unfolding print_steps print_natural print_number print_more print_numbers times print_comparison print_comparisons print_clause pair_parts in_front comparison_item comparison_items clause_items put turn fresh place_part place_parts place_item place_items numbered all_lines sheet_lines full print_sheet split read_digits read_natural read_integer read_integers read_part read_comparison read_comparisons tokens ends_open glued read_items goes_on line_tokens grouped read_clauses read_sheet
long_back = refl
