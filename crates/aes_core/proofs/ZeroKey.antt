-- The round keys of 32 zeros, by computation.
use Rattle.std.proofs.Common.{◌≡◌, refl, replicate, ap, ◌∙◌}
use Rattle.byte_words.specs.Blocks.{first_blocks}
use Rattle.aes_core.specs.Field.{times_x, sum_with_product, field_product, product_of_squares, field_inverse}
use Rattle.aes_core.specs.Substitution.{bit_of, number_of_bits, affine_map, substitute_byte}
use Rattle.aes_core.specs.RoundKeys.{power_of_x, round_constant, changed_word, next_word, key_schedule, round_keys}
use Rattle.aes_core.specs.Lanes.{round_key}
use Rattle.aes_core.specs.Shuffles.{found_in, low_half, high_half, half_bytes}
use Rattle.aes_core.specs.Steps.{inverse_mix_columns}
use Rattle.aes_core.specs.Basis.{in_basis, in_inverse_basis, forward_key, inverse_key, forward_keys, inverse_keys}
use Rattle.aes_core.specs.UnshiftedRows.{rotated_rows}
use Rattle.aes_core.specs.declared.zero_key.TheConstants.{ROUND_KEYS_OF_ZEROS, FORWARD_KEYS_OF_ZEROS, INVERSE_KEYS_OF_ZEROS}

pub zero_keys : ROUND_KEYS_OF_ZEROS ≡ round_keys (replicate 32 0)
unfolding times_x sum_with_product field_product product_of_squares field_inverse bit_of number_of_bits affine_map substitute_byte power_of_x round_constant changed_word next_word key_schedule round_keys
zero_keys = refl

forward_of_them : FORWARD_KEYS_OF_ZEROS ≡ forward_keys ROUND_KEYS_OF_ZEROS
unfolding first_blocks in_basis rotated_rows forward_key forward_keys round_key found_in low_half high_half half_bytes
forward_of_them = refl

pub zero_forward_keys : FORWARD_KEYS_OF_ZEROS ≡ forward_keys (round_keys (replicate 32 0))
zero_forward_keys = forward_of_them ∙ ap forward_keys zero_keys

inverse_of_them : INVERSE_KEYS_OF_ZEROS ≡ inverse_keys ROUND_KEYS_OF_ZEROS
unfolding first_blocks in_inverse_basis rotated_rows inverse_key inverse_keys round_key found_in low_half high_half half_bytes inverse_mix_columns times_x sum_with_product field_product
inverse_of_them = refl

pub zero_inverse_keys : INVERSE_KEYS_OF_ZEROS ≡ inverse_keys (round_keys (replicate 32 0))
zero_inverse_keys = inverse_of_them ∙ ap inverse_keys zero_keys
