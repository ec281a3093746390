-- Texts worked out: the definition computes what Claims.antt says of them.
use mathlib.Core.Path.{refl}
use Rattle.capped.specs.Cap.{limit}
use Rattle.sums.specs.Sum.{sum, largest}
use Rattle.sums.specs.Span.{upto, or_else}
use Rattle.model.specs.Data.{table_boxes, place_of, data_length, read}
use Rattle.model.specs.Columns.{column_boxes}
use Rattle.model.specs.Families.{family_of, row_boxes, equation}
use Rattle.model.specs.Prices.{price, cost}
use Rattle.model.specs.Tests.{unless, head_fault, count_fault, counts_fault, length_fault, entry_fault, entries_fault, plant_storage_fault, storage_fault, data_fault, scale_fault, plan_length_fault, constant⁺, constant⁻, above, below, row_fault, rows_fault, cost_fault, plan_fault, multiplier_count_fault, multiplier, multiplier_fault, priced⁺, priced⁻, column_fault, constants⁺, constants⁻, gap_fault, gap, multipliers_fault, columns_fault, dual_fault}
use Rattle.model.specs.Calls.{check_fault, cost_of, certify_fault, gap_of, certify}
use Rattle.text_numbers.specs.Numbers.{digit, with_digit, digits_at, number_at, signed}
use Rattle.texts.specs.Format.{count, one_more_number, numbers, after, join, opens_with, word_of, line_of, add_line, with_byte, lines, read_lines, text_of}
use Rattle.text_answers.specs.Format.{certify_text}
use Rattle.text_answers.specs.Claims.{FirstCase, FirstCaseInThousandths, EmptyInput}

pub first-case : FirstCase
unfolding certify_text digit with_digit digits_at number_at signed count one_more_number numbers after join opens_with word_of line_of add_line with_byte lines read_lines text_of certify certify_fault check_fault cost_of gap_of data_fault head_fault counts_fault count_fault length_fault entries_fault entry_fault storage_fault plant_storage_fault plan_fault scale_fault plan_length_fault rows_fault row_fault cost_fault dual_fault multiplier_count_fault multipliers_fault multiplier_fault columns_fault column_fault gap_fault gap constants⁺ constants⁻ priced⁺ priced⁻ multiplier above below constant⁺ constant⁻ price cost equation family_of row_boxes column_boxes table_boxes place_of data_length read sum largest upto or_else unless limit
first-case = refl

pub first_case-in-thousandths : FirstCaseInThousandths
unfolding certify_text digit with_digit digits_at number_at signed count one_more_number numbers after join opens_with word_of line_of add_line with_byte lines read_lines text_of certify certify_fault check_fault cost_of gap_of data_fault head_fault counts_fault count_fault length_fault entries_fault entry_fault storage_fault plant_storage_fault plan_fault scale_fault plan_length_fault rows_fault row_fault cost_fault dual_fault multiplier_count_fault multipliers_fault multiplier_fault columns_fault column_fault gap_fault gap constants⁺ constants⁻ priced⁺ priced⁻ multiplier above below constant⁺ constant⁻ price cost equation family_of row_boxes column_boxes table_boxes place_of data_length read sum largest upto or_else unless limit
first_case-in-thousandths = refl

pub empty-input : EmptyInput
unfolding certify_text text_of lines read_lines certify certify_fault check_fault data_fault head_fault or_else unless
empty-input = refl
