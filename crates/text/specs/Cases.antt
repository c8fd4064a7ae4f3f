-- Document 01's listing of P1 and the listing of P9, byte for byte, by computing; the one-line answers. Assumes nothing.
use Rattle.std.specs.Prelude.{◌≡◌, refl, [], ◌∷◌, pos, negsuc}
use Rattle.decimal.specs.Decimal.{print_steps, print_natural, print_number}
use Rattle.lines.specs.Lines.{print_more, print_numbers, print_line, times, print_domain, print_comparison, print_comparisons, print_clause, summed, members, total}
use Rattle.text.specs.Listing.{print_clauses, print_emitted, print_compiled, print_answer}
use Rattle.text.specs.declared.Answer.TheVariants.{Compiled, Contradiction, Refused, Unread}

pub P1_listed : print_answer Compiled 3 0 (pos 2 ∷ pos 2 ∷ pos 2 ∷ pos 1 ∷ pos 2 ∷ pos 3 ∷ pos 3 ∷ pos 0 ∷ pos 3 ∷ pos 3 ∷ pos 1 ∷ negsuc 1 ∷ negsuc 2 ∷ pos 0 ∷ pos 2 ∷ pos 2 ∷ negsuc 0 ∷ pos 0 ∷ pos 2 ∷ pos 3 ∷ negsuc 0 ∷ pos 0 ∷ []) ≡ 97 ∷ 110 ∷ 115 ∷ 119 ∷ 101 ∷ 114 ∷ 61 ∷ 99 ∷ 111 ∷ 109 ∷ 112 ∷ 105 ∷ 108 ∷ 101 ∷ 100 ∷ 10 ∷ 102 ∷ 105 ∷ 120 ∷ 101 ∷ 100 ∷ 61 ∷ 50 ∷ 44 ∷ 50 ∷ 44 ∷ 50 ∷ 10 ∷ 98 ∷ 111 ∷ 111 ∷ 108 ∷ 115 ∷ 61 ∷ 49 ∷ 44 ∷ 50 ∷ 44 ∷ 51 ∷ 10 ∷ 105 ∷ 110 ∷ 116 ∷ 115 ∷ 61 ∷ 10 ∷ 101 ∷ 109 ∷ 105 ∷ 116 ∷ 116 ∷ 101 ∷ 100 ∷ 61 ∷ 51 ∷ 44 ∷ 48 ∷ 10 ∷ 99 ∷ 108 ∷ 97 ∷ 117 ∷ 115 ∷ 101 ∷ 61 ∷ 49 ∷ 44 ∷ 45 ∷ 50 ∷ 44 ∷ 45 ∷ 51 ∷ 10 ∷ 99 ∷ 108 ∷ 97 ∷ 117 ∷ 115 ∷ 101 ∷ 61 ∷ 50 ∷ 44 ∷ 45 ∷ 49 ∷ 10 ∷ 99 ∷ 108 ∷ 97 ∷ 117 ∷ 115 ∷ 101 ∷ 61 ∷ 51 ∷ 44 ∷ 45 ∷ 49 ∷ 10 ∷ 99 ∷ 108 ∷ 97 ∷ 117 ∷ 115 ∷ 101 ∷ 115 ∷ 61 ∷ 51 ∷ 10 ∷ 116 ∷ 111 ∷ 116 ∷ 97 ∷ 108 ∷ 61 ∷ 55 ∷ 10 ∷ []
unfolding print_steps print_natural print_number print_more print_numbers print_line times print_domain print_comparison print_comparisons print_clause summed members print_clauses print_emitted print_compiled print_answer
P1_listed = refl

-- one literal and one comparison are printed of a clause that announces five comparisons, and none of the three clauses behind it
pub early_counted : total 4 (pos 1 ∷ pos 7 ∷ pos 5 ∷ pos 0 ∷ pos 3 ∷ []) ≡ 2
unfolding times print_comparison print_comparisons print_clause summed members
early_counted = refl

-- a record, and a clause of two comparisons
pub P9_listed : print_answer Compiled 0 1 (pos 1 ∷ pos 0 ∷ pos 1 ∷ pos 0 ∷ pos 0 ∷ pos 2 ∷ pos 3 ∷ pos 1 ∷ pos 0 ∷ pos 2 ∷ pos 0 ∷ pos 0 ∷ pos 1 ∷ pos 0 ∷ pos 1 ∷ pos 0 ∷ negsuc 1 ∷ pos 1 ∷ pos 0 ∷ pos 1 ∷ []) ≡ 97 ∷ 110 ∷ 115 ∷ 119 ∷ 101 ∷ 114 ∷ 61 ∷ 99 ∷ 111 ∷ 109 ∷ 112 ∷ 105 ∷ 108 ∷ 101 ∷ 100 ∷ 10 ∷ 102 ∷ 105 ∷ 120 ∷ 101 ∷ 100 ∷ 61 ∷ 10 ∷ 98 ∷ 111 ∷ 111 ∷ 108 ∷ 115 ∷ 61 ∷ 10 ∷ 105 ∷ 110 ∷ 116 ∷ 115 ∷ 61 ∷ 49 ∷ 10 ∷ 101 ∷ 109 ∷ 105 ∷ 116 ∷ 116 ∷ 101 ∷ 100 ∷ 61 ∷ 48 ∷ 44 ∷ 49 ∷ 10 ∷ 100 ∷ 111 ∷ 109 ∷ 97 ∷ 105 ∷ 110 ∷ 61 ∷ 48 ∷ 44 ∷ 48 ∷ 44 ∷ 50 ∷ 44 ∷ 51 ∷ 10 ∷ 99 ∷ 108 ∷ 97 ∷ 117 ∷ 115 ∷ 101 ∷ 61 ∷ 59 ∷ 48 ∷ 58 ∷ 48 ∷ 58 ∷ 48 ∷ 44 ∷ 49 ∷ 59 ∷ 48 ∷ 58 ∷ 45 ∷ 50 ∷ 58 ∷ 48 ∷ 44 ∷ 49 ∷ 10 ∷ 99 ∷ 108 ∷ 97 ∷ 117 ∷ 115 ∷ 101 ∷ 115 ∷ 61 ∷ 49 ∷ 10 ∷ 116 ∷ 111 ∷ 116 ∷ 97 ∷ 108 ∷ 61 ∷ 50 ∷ 10 ∷ []
unfolding print_steps print_natural print_number print_more print_numbers print_line times print_domain print_comparison print_comparisons print_clause summed members print_clauses print_emitted print_compiled print_answer
P9_listed = refl

pub refused_listed : print_answer (Refused 12) 0 0 [] ≡ 97 ∷ 110 ∷ 115 ∷ 119 ∷ 101 ∷ 114 ∷ 61 ∷ 114 ∷ 101 ∷ 102 ∷ 117 ∷ 115 ∷ 101 ∷ 100 ∷ 44 ∷ 49 ∷ 50 ∷ 10 ∷ []
unfolding print_steps print_natural print_number print_more print_numbers print_line times print_domain print_comparison print_comparisons print_clause summed members print_clauses print_emitted print_compiled print_answer
refused_listed = refl

pub contradiction_listed : print_answer Contradiction 0 0 [] ≡ 97 ∷ 110 ∷ 115 ∷ 119 ∷ 101 ∷ 114 ∷ 61 ∷ 99 ∷ 111 ∷ 110 ∷ 116 ∷ 114 ∷ 97 ∷ 100 ∷ 105 ∷ 99 ∷ 116 ∷ 105 ∷ 111 ∷ 110 ∷ 10 ∷ []
unfolding print_steps print_natural print_number print_more print_numbers print_line times print_domain print_comparison print_comparisons print_clause summed members print_clauses print_emitted print_compiled print_answer
contradiction_listed = refl

pub unread_listed : print_answer Unread 0 0 [] ≡ 97 ∷ 110 ∷ 115 ∷ 119 ∷ 101 ∷ 114 ∷ 61 ∷ 117 ∷ 110 ∷ 114 ∷ 101 ∷ 97 ∷ 100 ∷ 10 ∷ []
unfolding print_steps print_natural print_number print_more print_numbers print_line times print_domain print_comparison print_comparisons print_clause summed members print_clauses print_emitted print_compiled print_answer
unread_listed = refl
