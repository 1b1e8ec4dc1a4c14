-- Each gate by its truth table, a number of 256 bits; the last tables are those of the standard's bytes.
use Rattle.std.proofs.Common.{[], ◌∷◌, get_or, ap, refl, ◌∙◌}
use Rattle.byte_words.specs.Tables.{all_from}
use Rattle.aes_core.specs.Field.{times_x, sum_with_product, field_product, product_of_squares, field_inverse}
use Rattle.aes_core.specs.Substitution.{bit_of, number_of_bits, inverse_affine_map, inverse_substitute_byte}
use Rattle.aes_core.specs.Planes.{planes}
use Rattle.aes_core.specs.MiddleRounds.{plus_constant}
use Rattle.aes_core.proofs.PlaneLemmas.{Carries, xor_gate, and_gate, or_gate}
use Rattle.aes_core.proofs.CircuitTables.{plane_plus_constant, inverse_plane_of_sbox}
use Rattle.aes_core.proofs.inverse_substitution_circuit.inverse_substitute_planes.Goals as goal

pub returns : goal.returns
unfolding planes all_from times_x sum_with_product field_product product_of_squares field_inverse bit_of number_of_bits inverse_affine_map inverse_substitute_byte plus_constant
returns c s blocks is =
    let u0 : Carries s 0x5555555555555555555555555555555555555555555555555555555555555555 (get_or c.args.state 0 []) = record { is = ap (λ q. get_or q 0 []) is ∙ plane_plus_constant 0 0x5555555555555555555555555555555555555555555555555555555555555555 s blocks refl } in
    let u1 : Carries s 0x3333333333333333333333333333333333333333333333333333333333333333 (get_or c.args.state 1 []) = record { is = ap (λ q. get_or q 1 []) is ∙ plane_plus_constant 1 0x3333333333333333333333333333333333333333333333333333333333333333 s blocks refl } in
    let u2 : Carries s 0xf0f0f0f0f0f0f0f0f0f0f0f0f0f0f0f0f0f0f0f0f0f0f0f0f0f0f0f0f0f0f0f0 (get_or c.args.state 2 []) = record { is = ap (λ q. get_or q 2 []) is ∙ plane_plus_constant 2 0xf0f0f0f0f0f0f0f0f0f0f0f0f0f0f0f0f0f0f0f0f0f0f0f0f0f0f0f0f0f0f0f0 s blocks refl } in
    let u3 : Carries s 0xff00ff00ff00ff00ff00ff00ff00ff00ff00ff00ff00ff00ff00ff00ff00ff00 (get_or c.args.state 3 []) = record { is = ap (λ q. get_or q 3 []) is ∙ plane_plus_constant 3 0xff00ff00ff00ff00ff00ff00ff00ff00ff00ff00ff00ff00ff00ff00ff00ff00 s blocks refl } in
    let u4 : Carries s 0xffff0000ffff0000ffff0000ffff0000ffff0000ffff0000ffff0000ffff0000 (get_or c.args.state 4 []) = record { is = ap (λ q. get_or q 4 []) is ∙ plane_plus_constant 4 0xffff0000ffff0000ffff0000ffff0000ffff0000ffff0000ffff0000ffff0000 s blocks refl } in
    let u5 : Carries s 0xffffffff00000000ffffffff00000000ffffffff00000000ffffffff (get_or c.args.state 5 []) = record { is = ap (λ q. get_or q 5 []) is ∙ plane_plus_constant 5 0xffffffff00000000ffffffff00000000ffffffff00000000ffffffff s blocks refl } in
    let u6 : Carries s 0xffffffffffffffff0000000000000000ffffffffffffffff (get_or c.args.state 6 []) = record { is = ap (λ q. get_or q 6 []) is ∙ plane_plus_constant 6 0xffffffffffffffff0000000000000000ffffffffffffffff s blocks refl } in
    let u7 : Carries s 0xffffffffffffffffffffffffffffffff00000000000000000000000000000000 (get_or c.args.state 7 []) = record { is = ap (λ q. get_or q 7 []) is ∙ plane_plus_constant 7 0xffffffffffffffffffffffffffffffff00000000000000000000000000000000 s blocks refl } in
    let g1 : Carries s 0xf0f0f0f0f0f0f0f0f0f0f0f0f0f0f0ff0f0f0f0f0f0f0f0f0f0f0f0f0f0f0f0 c.xor-g1.result = xor_gate c.xor-g1.ensures u2 u7 in
    let g2 : Carries s 0xf0f0f0f0f0f0f0ff0f0f0f0f0f0f0f0f0f0f0f0f0f0f0f00f0f0f0f0f0f0f0f c.xor-g2.result = xor_gate c.xor-g2.ensures u6 g1 in
    let g3 : Carries s 0xff00ff0000ff00ffff00ff0000ff00ffff00ff0000ff00ffff00ff0000ff00ff c.xor-g3.result = xor_gate c.xor-g3.ensures u3 u5 in
    let g4 : Carries s 0xff00ffff00ff0000ff00ffff00ff00ff00ff0000ff00ffff00ff0000ff00ff c.xor-g4.result = xor_gate c.xor-g4.ensures u7 g3 in
    let g5 : Carries s 0x33333333cccccccc33333333cccccccc33333333cccccccc33333333cccccccc c.xor-g5.result = xor_gate c.xor-g5.ensures u1 u5 in
    let g6 : Carries s 0xf0f00f0ff0f00f0f0f0ff0f00f0ff0f00f0ff0f00f0ff0f0f0f00f0ff0f00f0f c.xor-g6.result = xor_gate c.xor-g6.ensures u4 g2 in
    let g7 : Carries s 0xff0f00ff00f0ff0f00f0ff00ff0f00ff00f0ff00ff0f00f0ff0f00ff00f0ff0 c.xor-g7.result = xor_gate c.xor-g7.ensures g3 g6 in
    let g8 : Carries s 0x3c3c3c3cc3c3c3c33c3c3c3cc3c3c3c3c3c3c3c33c3c3c3cc3c3c3c33c3c3c3c c.xor-g8.result = xor_gate c.xor-g8.ensures g1 g5 in
    let g9 : Carries s 0xcc33cc3333cc33cccc33cc3333cc33cccc33cc3333cc33cccc33cc3333cc33cc c.xor-g9.result = xor_gate c.xor-g9.ensures u1 g3 in
    let g10 : Carries s 0xa5a55a5aa5a55a5a5a5aa5a55a5aa5a55a5aa5a55a5aa5a5a5a55a5aa5a55a5a c.xor-g10.result = xor_gate c.xor-g10.ensures u0 g6 in
    let g11 : Carries s 0xc33cc33c3cc33cc33cc33cc3c33cc33c3cc33cc3c33cc33cc33cc33c3cc33cc3 c.xor-g11.result = xor_gate c.xor-g11.ensures g2 g9 in
    let g12 : Carries s 0x6969696996969696696969699696969696969696696969699696969669696969 c.xor-g12.result = xor_gate c.xor-g12.ensures u0 g8 in
    let g13 : Carries s 0xff00ffff00ff00ff00ff0000ff00ffff00ff0000ff00ff00ff00ffff00ff00 c.xor-g13.result = xor_gate c.xor-g13.ensures u6 g4 in
    let g14 : Carries s 0x3c3c3c3cc3c3c3c3c3c3c3c33c3c3c3cc3c3c3c33c3c3c3c3c3c3c3cc3c3c3c3 c.xor-g14.result = xor_gate c.xor-g14.ensures g5 g2 in
    let g15 : Carries s 0xc3c3c3c3c3c3c3c33c3c3c3c3c3c3c3cc3c3c3c3c3c3c3c33c3c3c3c3c3c3c3c c.xor-g15.result = xor_gate c.xor-g15.ensures g4 g11 in
    let g16 : Carries s 0x6996699669966996966996699669966969966996699669969669966996699669 c.xor-g16.result = xor_gate c.xor-g16.ensures g13 g12 in
    let g17 : Carries s 0xcc33cc3333cc33cccc33cc3333cc33cccc33cc3333cc33cccc33cc3333cc33cc c.xor-g17.result = xor_gate c.xor-g17.ensures g11 g2 in
    let g18 : Carries s 0xaa55aa5555aa55aaaa55aa5555aa55aaaa55aa5555aa55aaaa55aa5555aa55aa c.xor-g18.result = xor_gate c.xor-g18.ensures g10 g7 in
    let g19 : Carries s 0xebd7ebd7ebd7ebd7be7dbe7dbe7dbe7debd7ebd7ebd7ebd7be7dbe7dbe7dbe7d c.or-g19.result = or_gate c.or-g19.ensures g15 g16 in
    let g20 : Carries s 0xbe7dbe7dd7ebd7ebebd7ebd77dbe7dbeebd7ebd77dbe7dbebe7dbe7dd7ebd7eb c.or-g20.result = or_gate c.or-g20.ensures g14 g18 in
    let g21 : Carries s 0xffffffff00000000ffffffff0000000000000000ffffffff00000000ffffffff c.xor-g21.result = xor_gate c.xor-g21.ensures g14 g15 in
    let g22 : Carries s 0x2814281441824182824182411428142882418241142814282814281441824182 c.and-g22.result = and_gate c.and-g22.ensures g14 g18 in
    let g23 : Carries s 0xc3c3c3c33c3c3c3c3c3c3c3cc3c3c3c3c3c3c3c33c3c3c3c3c3c3c3cc3c3c3c3 c.xor-g23.result = xor_gate c.xor-g23.ensures g18 g16 in
    let g24 : Carries s 0x4182418241824182142814281428142841824182418241821428142814281428 c.and-g24.result = and_gate c.and-g24.ensures g15 g16 in
    let g25 : Carries s 0xc3c3c3c3000000003c3c3c3c00000000000000003c3c3c3c00000000c3c3c3c3 c.and-g25.result = and_gate c.and-g25.ensures g21 g23 in
    let g26 : Carries s 0x6699996666999966996666999966669966999966669999669966669999666699 c.xor-g26.result = xor_gate c.xor-g26.ensures g12 g7 in
    let g27 : Carries s 0x4411882222881144882244111144228844118822228811448822441111442288 c.and-g27.result = and_gate c.and-g27.ensures g17 g26 in
    let g28 : Carries s 0xfa6c365ff563c6af63f5afc66cfa5f36afc663f55f366cfa365ffa6cc6aff563 c.xor-g28.result = xor_gate c.xor-g28.ensures g20 g27 in
    let g29 : Carries s 0xafc663f5c95ffa93365ffa6caf399cf5afc663f5c95ffa93365ffa6caf399cf5 c.xor-g29.result = xor_gate c.xor-g29.ensures g19 g27 in
    let g30 : Carries s 0x33cc33cc33cc33cc33cc33cc33cc33cccc33cc33cc33cc33cc33cc33cc33cc33 c.xor-g30.result = xor_gate c.xor-g30.ensures g5 g4 in
    let g31 : Carries s 0xa55a5aa55aa5a55aa55a5aa55aa5a55aa55a5aa55aa5a55aa55a5aa55aa5a55a c.xor-g31.result = xor_gate c.xor-g31.ensures g13 g10 in
    let g32 : Carries s 0x2148128412842148214812841284214884124821482184128412482148218412 c.and-g32.result = and_gate c.and-g32.ensures g30 g31 in
    let g33 : Carries s 0xb7de7bed7bedb7deb7de7bed7bedb7deed7bdeb7deb7ed7bed7bdeb7deb7ed7b c.or-g33.result = or_gate c.or-g33.ensures g30 g31 in
    let g34 : Carries s 0x60ca5306530660ca356006ac06ac3560c59009a309a3c590903a5c095c09903a c.xor-g34.result = xor_gate c.xor-g34.ensures g24 g32 in
    let g35 : Carries s 0x39aff59cf563c6af5fc993fa6cfa5f36afc663f5630a50c6365ffa6c056c36a0 c.xor-g35.result = xor_gate c.xor-g35.ensures g28 g25 in
    let g36 : Carries s 0x87d24be188ddbb11b41e782dbb1188dd2d87e1b4dd77eebb1e4bd278eebbdd77 c.xor-g36.result = xor_gate c.xor-g36.ensures g29 g22 in
    let g37 : Carries s 0x741db82e7bedb7de8be247d17bedb7deed7bdeb7e28bd147ed7bdeb71d742eb8 c.xor-g37.result = xor_gate c.xor-g37.ensures g33 g25 in
    let g38 : Carries s 0x48de7b1212842148b72184ed1284214847d18be21d8bd1b8b82e741d1d8bd1b8 c.xor-g38.result = xor_gate c.xor-g38.ensures g34 g22 in
    let g39 : Carries s 0x5c09903a3a6ff65c09a3c5906fc5a3f66f3a5cf6f6a3c56fc56ff6a35cf66f3a c.xor-g39.result = xor_gate c.xor-g39.ensures g37 g22 in
    let g40 : Carries s 0x4128412814821482284128418214821414821482412841288214821428412841 c.and-g40.result = and_gate c.and-g40.ensures g11 g12 in
    let g41 : Carries s 0xf00000f000f0f00f00000f000f0f000f00000f000f0f0000f00000f000f0f00 c.and-g41.result = and_gate c.and-g41.ensures g2 g7 in
    let g42 : Carries s 0xff00ffff00ff000000000000000000ff00ff0000ff00ff0000000000000000 c.and-g42.result = and_gate c.and-g42.ensures g4 g13 in
    let g43 : Carries s 0xb7b77b7bededdede7b7bb7b7dedeeded7b7bb7b7dedeededb7b77b7bededdede c.or-g43.result = or_gate c.or-g43.ensures g5 g10 in
    let g44 : Carries s 0x7887b4b4e1e1d22d7788bbbbeeeedd22bb447777222211eeb44b78782d2d1ee1 c.xor-g44.result = xor_gate c.xor-g44.ensures g35 g40 in
    let g45 : Carries s 0x88d24bee88d2b411441e78ddbbe178dddd87e144dd871ebb114bd277eeb4d277 c.xor-g45.result = xor_gate c.xor-g45.ensures g36 g41 in
    let g46 : Carries s 0x5cf690c5c56f095c09a3c5906fc5a3f6903aa3f6f65cc590c56ff6a35cf66f3a c.xor-g46.result = xor_gate c.xor-g46.ensures g39 g42 in
    let g47 : Carries s 0xff690069ff69ff96cc5a335acc5acca53caa3c55c3553c550f990f66f0660f66 c.xor-g47.result = xor_gate c.xor-g47.ensures g38 g43 in
    let g48 : Carries s 0x58869084c161000c018081906ec481229000237622000180844b70200c240e20 c.and-g48.result = and_gate c.and-g48.ensures g44 g46 in
    let g49 : Carries s 0xf055ff5a6933663c3396c366550fa5ff66c39633ffa50f55a500aa0fc399cc96 c.xor-g49.result = xor_gate c.xor-g49.ensures g44 g45 in
    let g50 : Carries s 0xa7ef90ed3e08ff9acddab2caa29e4d87acaa1f23e1553dd58bd27f46fc420146 c.xor-g50.result = xor_gate c.xor-g50.ensures g47 g48 in
    let g51 : Carries s 0xa04590482800661801928242000e058724821623e1050d5581002a06c0000006 c.and-g51.result = and_gate c.and-g51.ensures g49 g50 in
    let g52 : Carries s 0x2897dba6a0d2d209458cfa9fbbef7d5af905f7673c8213ee904bf8712eb4d271 c.xor-g52.result = xor_gate c.xor-g52.ensures g51 g45 in
    let g53 : Carries s 0xa39f90ac3a06f6cac5f9f6caa39f6f53ac909fa33509f9c5caf6f9c5ac90605c c.xor-g53.result = xor_gate c.xor-g53.ensures g46 g47 in
    let g54 : Carries s 0xd054db6a49b3b41d459ef94dd525f9ff4d87c232ff871f3b9500a257e290dc57 c.xor-g54.result = xor_gate c.xor-g54.ensures g48 g45 in
    let g55 : Carries s 0x801490280802b4084598f048810569530c808222350119018000a045a0904054 c.and-g55.result = and_gate c.and-g55.ensures g53 g54 in
    let g56 : Carries s 0x7f7d9041f76b4b9e89c2c3124d5fa5f6302abe77f65425548f99af2350f64f32 c.xor-g56.result = xor_gate c.xor-g56.ensures g55 g47 in
    let g57 : Carries s 0xd89200acc963b404441871d8efc1e8719c80a15417011881044bd065acb44e74 c.xor-g57.result = xor_gate c.xor-g57.ensures g50 g56 in
    let g58 : Carries s 0x238b0084320442c280610682229a0600a0101d810008e0c44af659800c002008 c.xor-g58.result = xor_gate c.xor-g58.ensures g46 g56 in
    let g59 : Carries s 0xd8000028c961b40444183158cc40c8211c8020540301180104090064a0240e64 c.and-g59.result = and_gate c.and-g59.ensures g57 g47 in
    let g60 : Carries s 0x7fef90c5f7694b9e89c283926ede85a6b02a3f77e25425d48fdb7f225c660f22 c.xor-g60.result = xor_gate c.xor-g60.ensures g50 g59 in
    let g61 : Carries s 0xfb8b00acfb65f6c6c47937daeedace21bc903dd50309f8c54eff59e4ac242e6c c.xor-g61.result = xor_gate c.xor-g61.ensures g58 g59 in
    let g62 : Carries s 0x28879084a0404208018082922ace0502b0003767200001c4804b78200c240220 c.and-g62.result = and_gate c.and-g62.ensures g60 g52 in
    let g63 : Carries s 0xd8d26fdec9732434321641f47fc1a0fdd6c3a154dfa50e91254bd22fcfbdceb6 c.xor-g63.result = xor_gate c.xor-g63.ensures g62 g49 in
    let g64 : Carries s 0xf045b47869a1f63d779abb6bc42edda72fc65633e3271d7fb5002a5ee1091cc7 c.xor-g64.result = xor_gate c.xor-g64.ensures g52 g63 in
    let g65 : Carries s 0xa005105821a15218521aa121400a85a50a42042142020525a5000a5aa1011842 c.and-g65.result = and_gate c.and-g65.ensures g64 g10 in
    let g66 : Carries s 0xa55a5aa55aa5a55aa55a5aa55aa5a55aa55a5aa55aa5a55aa55a5aa55aa5a55a c.xor-g66.result = xor_gate c.xor-g66.ensures g10 g13 in
    let g67 : Carries s 0x9700a6a000d2004500fa0000ef005af900f700008200ee004b00712e00d200 c.and-g67.result = and_gate c.and-g67.ensures g13 g52 in
    let g68 : Carries s 0x80524a8448212410201240a45a81a058844200045aa50410254a52254aa58412 c.and-g68.result = and_gate c.and-g68.ensures g66 g63 in
    let g69 : Carries s 0x80c54a22e821f6106512baa45a6ea0027d42f7045a2704fe2501525464a55612 c.xor-g69.result = xor_gate c.xor-g69.ensures g68 g67 in
    let g70 : Carries s 0xa09210fe81a18018171a5b2140e585fff342f321428005cba54b0a2b8f01ca42 c.xor-g70.result = xor_gate c.xor-g70.ensures g67 g65 in
    let g71 : Carries s 0xaa55aa5555aa55aaaa55aa5555aa55aaaa55aa5555aa55aaaa55aa5555aa55aa c.xor-g71.result = xor_gate c.xor-g71.ensures g10 g7 in
    let g72 : Carries s 0x6996699669966996966996699669966969966996699669969669966996699669 c.xor-g72.result = xor_gate c.xor-g72.ensures g13 g12 in
    let g73 : Carries s 0x57ea4be757b99997cc4e398df6b0d8acc92f4910cad636ba1fd257527e429d43 c.xor-g73.result = xor_gate c.xor-g73.ensures g52 g56 in
    let g74 : Carries s 0x23596f723216d2f2f66f762e911b6edc6a539c81dcacf6546bb48bcb6399e0da c.xor-g74.result = xor_gate c.xor-g74.ensures g63 g61 in
    let g75 : Carries s 0x74b3249565af4b653a214fa367abb670a37cd591167ac0ee7466dc991ddb7d99 c.xor-g75.result = xor_gate c.xor-g75.ensures g73 g74 in
    let g76 : Carries s 0x2011201545aa41202a010a0145aa1420a2548011142a40aa20448811158a5588 c.and-g76.result = and_gate c.and-g76.ensures g75 g71 in
    let g77 : Carries s 0xc3c3c3c33c3c3c3c3c3c3c3cc3c3c3c3c3c3c3c33c3c3c3c3c3c3c3cc3c3c3c3 c.xor-g77.result = xor_gate c.xor-g77.ensures g71 g72 in
    let g78 : Carries s 0x4182498641900996844810099620902849064910489620921640164016409441 c.and-g78.result = and_gate c.and-g78.ensures g72 g73 in
    let g79 : Carries s 0x341434230141030342c342c810342c0424380811c2c3414283408084381c0c2 c.and-g79.result = and_gate c.and-g79.ensures g77 g74 in
    let g80 : Carries s 0x42c30ac4718419a6b06424251723d2e80b45c99154ba14863e741e4855c15483 c.xor-g80.result = xor_gate c.xor-g80.ensures g78 g79 in
    let g81 : Carries s 0x2350635775be51101e2d3e2dc4a956e0e0170090080674be08708019560b954a c.xor-g81.result = xor_gate c.xor-g81.ensures g79 g76 in
    let g82 : Carries s 0x84f690ed0c0ebd584dbbf4c8a3856bd78cba83a2f55ddd91c166f6c7fcd2615e c.xor-g82.result = xor_gate c.xor-g82.ensures g56 g61 in
    let g83 : Carries s 0x4f0900d000e0d50400b04c003806007800a03a00550d0010160f007f0020150 c.and-g83.result = and_gate c.and-g83.ensures g82 g7 in
    let g84 : Carries s 0x6699996666999966996666999966669966999966669999669966669999666699 c.xor-g84.result = xor_gate c.xor-g84.ensures g7 g12 in
    let g85 : Carries s 0x6969004196020296094041000416849610029616604021408690860240604920 c.and-g85.result = and_gate c.and-g85.ensures g12 g56 in
    let g86 : Carries s 0x6289002462019046806026988842460124901944020998440866408088242608 c.and-g86.result = and_gate c.and-g86.ensures g84 g61 in
    let g87 : Carries s 0xbe00065f40392d0892067988c54c29734928f526249b9048ef6c682c8446f28 c.xor-g87.result = xor_gate c.xor-g87.ensures g86 g85 in
    let g88 : Carries s 0x6d99904c960c0fc6494b45c00796e491900895b66510f14187f07605b0624870 c.xor-g88.result = xor_gate c.xor-g88.ensures g85 g83 in
    let g89 : Carries s 0xa39529759d9fa7007b3f84899ec7f6e29d55f794522170402d71d24d32aec358 c.xor-g89.result = xor_gate c.xor-g89.ensures g69 g81 in
    let g90 : Carries s 0x28b0633281bdc3c0970d59b548fd9477d4858fc26a4fcdba8686469b9e4ffa62 c.xor-g90.result = xor_gate c.xor-g90.ensures g87 g81 in
    let g91 : Carries s 0xe2511a3af02599bea77e7f0457c65717f8073ab0163a114d9b3f1463dac09ec1 c.xor-g91.result = xor_gate c.xor-g91.ensures g70 g80 in
    let g92 : Carries s 0x2f5a9a88e7881660f92f61e510b536799b4d5c2731aae5c7b984684de5a31cf3 c.xor-g92.result = xor_gate c.xor-g92.ensures g88 g80 in
    let g93 : Carries s 0x3c3c3c3cc3c3c3c3c3c3c3c33c3c3c3cc3c3c3c33c3c3c3c3c3c3c3cc3c3c3c3 c.xor-g93.result = xor_gate c.xor-g93.ensures g5 g2 in
    let g94 : Carries s 0xc3c3c3c3c3c3c3c33c3c3c3c3c3c3c3cc3c3c3c3c3c3c3c33c3c3c3c3c3c3c3c c.xor-g94.result = xor_gate c.xor-g94.ensures g4 g11 in
    let g95 : Carries s 0x74b3249565af4b653a214fa367abb670a37cd591167ac0ee7466dc991ddb7d99 c.xor-g95.result = xor_gate c.xor-g95.ensures g73 g74 in
    let g96 : Carries s 0x343024144183434102014383242834308340c1811438002c34241c1801c34181 c.and-g96.result = and_gate c.and-g96.ensures g95 g93 in
    let g97 : Carries s 0xffffffff00000000ffffffff0000000000000000ffffffff00000000ffffffff c.xor-g97.result = xor_gate c.xor-g97.ensures g93 g94 in
    let g98 : Carries s 0x43c243c3438181830c0c380c3430182cc1034100c2c202821c1014103c001c00 c.and-g98.result = and_gate c.and-g98.ensures g94 g73 in
    let g99 : Carries s 0x23596f7200000000f66f762e0000000000000000dcacf654000000006399e0da c.and-g99.result = and_gate c.and-g99.ensures g97 g74 in
    let g100 : Carries s 0x609b2cb143818183fa634e223430182cc10341001e6ef4d61c1014105f99fcda c.xor-g100.result = xor_gate c.xor-g100.ensures g98 g99 in
    let g101 : Carries s 0x17694b6641834341f46e35ad242834308340c181c894f67834241c18625aa15b c.xor-g101.result = xor_gate c.xor-g101.ensures g99 g96 in
    let g102 : Carries s 0x84f690ed0c0ebd584dbbf4c8a3856bd78cba83a2f55ddd91c166f6c7fcd2615e c.xor-g102.result = xor_gate c.xor-g102.ensures g56 g61 in
    let g103 : Carries s 0x406000d0c0e0d0840b0f0c0a08060d080b080a0f050d090010606070c02010e c.and-g103.result = and_gate c.and-g103.ensures g102 g2 in
    let g104 : Carries s 0xcc33cc3333cc33cccc33cc3333cc33cccc33cc3333cc33cccc33cc3333cc33cc c.xor-g104.result = xor_gate c.xor-g104.ensures g2 g11 in
    let g105 : Carries s 0x433c80003443088208c20002411c813430023c43c21401148318832010c20c02 c.and-g105.result = and_gate c.and-g105.ensures g11 g56 in
    let g106 : Carries s 0xc8030020334432c4c431041222c802008c100c11030830c44c3348202004224c c.and-g106.result = and_gate c.and-g106.ensures g104 g61 in
    let g107 : Carries s 0x8b3f802007073a46ccf3041063d48334bc123052c11c31d0cf2bcb0030c62e4e c.xor-g107.result = xor_gate c.xor-g107.ensures g106 g105 in
    let g108 : Carries s 0x473a800d384d058a4872f0c2e19ce1e4b0b2bce33244d184821e85271cc00d0c c.xor-g108.result = xor_gate c.xor-g108.ensures g105 g103 in
    let g109 : Carries s 0xf045b47869a1f63d779abb6bc42edda72fc65633e3271d7fb5002a5ee1091cc7 c.xor-g109.result = xor_gate c.xor-g109.ensures g52 g63 in
    let g110 : Carries s 0x300130304880c40c33123323c40ccc8423021233c0040c4c31002212c0080cc4 c.and-g110.result = and_gate c.and-g110.ensures g109 g5 in
    let g111 : Carries s 0x33cc33cc33cc33cc33cc33cc33cc33cccc33cc33cc33cc33cc33cc33cc33cc33 c.xor-g111.result = xor_gate c.xor-g111.ensures g5 g4 in
    let g112 : Carries s 0x9700a6a000d200008c009fbb007d00f900f700008200ee9000f80000b40071 c.and-g112.result = and_gate c.and-g112.ensures g4 g52 in
    let g113 : Carries s 0x10c023cc01402004320401c433c020ccc4038010cc210c110403c023cc31cc32 c.and-g113.result = and_gate c.and-g113.ensures g111 g63 in
    let g114 : Carries s 0x1057236aa140f2043288015b88c05dcc3d037710cca30cff94033823cc85cc43 c.xor-g114.result = xor_gate c.xor-g114.ensures g113 g112 in
    let g115 : Carries s 0x30963096e880160c339e33bc7f0cb184da02e533c0860ca2a100da12c0bc0cb5 c.xor-g115.result = xor_gate c.xor-g115.ensures g112 g110 in
    let g116 : Carries s 0x73e680ce0c3b145c6e634f6ace869fcbe43b6910437fa87a027243baedf6d18 c.xor-g116.result = xor_gate c.xor-g116.ensures g114 g101 in
    let g117 : Carries s 0x9c56cb4646847907389d31bd47fcb7043f52f1d30988c7a8fb0fd718529c8f15 c.xor-g117.result = xor_gate c.xor-g117.ensures g107 g101 in
    let g118 : Carries s 0x500d1c27ab01978fc9fd7d9e4b3ca9a81b01a433dee8f874bd10ce029f25f06f c.xor-g118.result = xor_gate c.xor-g118.ensures g115 g100 in
    let g119 : Carries s 0x27a1acbc7bcc8409b211bee0d5acf9c871b1fde32c2a25529e0e91374359f1d6 c.xor-g119.result = xor_gate c.xor-g119.ensures g108 g100 in
    let g120 : Carries s 0xf11cf8efa7147c9251ce7559d516dbfa53472214665e8e81888d7acdd160bb4 c.xor-g120.result = xor_gate c.xor-g120.ensures g119 g90 in
    let g121 : Carries s 0x82fa7821ab2f68ce3fad3a331b904431b77c4b04252126fb8aff39773c966ac c.xor-g121.result = xor_gate c.xor-g121.ensures g116 g120 in
    let g122 : Carries s 0xabba8ef7872d518c98c5572aaf7ef2a1862233241073622f95de21da4167a5f4 c.xor-g122.result = xor_gate c.xor-g122.ensures g89 g121 in
    let g123 : Carries s 0xcd0b80b217ad8fde5e511ee14773616e634a66972790f48a22bb7c2e3f638232 c.xor-g123.result = xor_gate c.xor-g123.ensures g91 g92 in
    let g124 : Carries s 0x94796cc45c368f8bdb67e21e7645b347242535634bdad5c743a0248f2155e9b9 c.xor-g124.result = xor_gate c.xor-g124.ensures g117 g121 in
    let g125 : Carries s 0xbb23f64cbbbe99eb224883fb66f0853ebf6869447a703000fa244cc2c4f6f54a c.xor-g125.result = xor_gate c.xor-g125.ensures g92 g124 in
    let g126 : Carries s 0xfbb792d02c2cc60351382ab4e4425b099d239717ce9b9a5b28ceefd8de42559b c.xor-g126.result = xor_gate c.xor-g126.ensures g118 g122 in
    let g127 : Carries s 0xcc5bd761ed85ee88f1604c230cc01eac245355e0d7603fdc461f191acdb97f7a c.xor-g127.result = xor_gate c.xor-g127.ensures g118 g117 in
    let g128 : Carries s 0x8fb36349c4492694b3edf05c519cfb1eafca1c41d80c095278af97aa6faed25 c.xor-g128.result = xor_gate c.xor-g128.ensures g119 g92 in
    let g129 : Carries s 0x9b68a34aa647c842fe7b054beb14def8811147420dbf3d2f5b28f323fc43e20d c.xor-g129.result = xor_gate c.xor-g129.ensures g116 g117 in
    let g130 : Carries s 0xc21a4f3ceddcc8177b4df9b4da220cd1c67e14b661f51c623a33ab82e2758986 c.xor-g130.result = xor_gate c.xor-g130.ensures g120 g123 in
    let g131 : Carries s 0x15057d3fa286156af3152c24bb37fc247193377f0f0cb5664a46534f2dafd48 c.xor-g131.result = xor_gate c.xor-g131.ensures g123 g127 in
    let g132 : Carries s 0xd4ed0858cba4d063a8174b51f4f76d70066ecb30ff317f9c914a87953be14968 c.xor-g132.result = xor_gate c.xor-g132.ensures g92 g126 in
    (λ i. (g125.is ∙ inverse_plane_of_sbox 0 0xbb23f64cbbbe99eb224883fb66f0853ebf6869447a703000fa244cc2c4f6f54a s blocks refl) i ∷
    (g128.is ∙ inverse_plane_of_sbox 1 0x8fb36349c4492694b3edf05c519cfb1eafca1c41d80c095278af97aa6faed25 s blocks refl) i ∷
    (g132.is ∙ inverse_plane_of_sbox 2 0xd4ed0858cba4d063a8174b51f4f76d70066ecb30ff317f9c914a87953be14968 s blocks refl) i ∷
    (g130.is ∙ inverse_plane_of_sbox 3 0xc21a4f3ceddcc8177b4df9b4da220cd1c67e14b661f51c623a33ab82e2758986 s blocks refl) i ∷
    (g124.is ∙ inverse_plane_of_sbox 4 0x94796cc45c368f8bdb67e21e7645b347242535634bdad5c743a0248f2155e9b9 s blocks refl) i ∷
    (g122.is ∙ inverse_plane_of_sbox 5 0xabba8ef7872d518c98c5572aaf7ef2a1862233241073622f95de21da4167a5f4 s blocks refl) i ∷
    (g129.is ∙ inverse_plane_of_sbox 6 0x9b68a34aa647c842fe7b054beb14def8811147420dbf3d2f5b28f323fc43e20d s blocks refl) i ∷
    (g131.is ∙ inverse_plane_of_sbox 7 0x15057d3fa286156af3152c24bb37fc247193377f0f0cb5664a46534f2dafd48 s blocks refl) i ∷ [])
