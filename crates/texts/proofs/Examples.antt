-- Texts worked out: the definition computes what Claims.antt says of them.
use mathlib.Core.Path.{refl}
use Rattle.text_numbers.specs.Numbers.{digit, with_digit, digits_at, number_at, signed}
use Rattle.texts.specs.Format.{count, one_more_number, numbers, after, join, opens_with, word_of, line_of, add_line, with_byte, lines, read_lines, text_of}
use Rattle.texts.specs.Claims.{AnyOrder, BadLines}

pub any_order : AnyOrder
unfolding digit with_digit digits_at number_at signed count one_more_number numbers after join opens_with word_of line_of add_line with_byte lines read_lines text_of
any_order = refl

pub bad-lines : BadLines
unfolding digit with_digit digits_at number_at signed count one_more_number numbers after join opens_with word_of line_of add_line with_byte lines read_lines text_of
bad-lines =
    record {
      empty_line = refl;
      no_line_feed = refl;
      no_number = refl;
      other_word = refl;
      lower_case = refl;
      seven_digits = refl;
      eight_dual_digits = refl;
      carriage_return = refl;
      trailing_space = refl;
      double_space = refl;
      two_scales = refl;
      second_scale = refl;
      sixty_five_numbers = refl;
    }
