-- Each gate by its truth table, a number of 256 bits; the last tables are those of the standard's bytes
-- without the constant.
use Rattle.std.proofs.Common.{[], ◌∷◌, get_or, ap, refl, ◌∙◌}
use Rattle.byte_words.specs.Tables.{all_from}
use Rattle.aes_core.specs.Field.{times_x, sum_with_product, field_product, product_of_squares, field_inverse}
use Rattle.aes_core.specs.Substitution.{bit_of, number_of_bits, affine_map, substitute_byte}
use Rattle.aes_core.specs.Planes.{planes}
use Rattle.aes_core.specs.MiddleRounds.{substitute_without_constant}
use Rattle.aes_core.proofs.PlaneLemmas.{Carries, xor_gate, and_gate}
use Rattle.aes_core.proofs.CircuitTables.{plane_of_bit, plane_without_constant}
use Rattle.aes_core.proofs.substitution_circuit.substitute_planes.Goals as goal

pub returns : goal.returns
unfolding planes all_from times_x sum_with_product field_product product_of_squares field_inverse bit_of number_of_bits affine_map substitute_byte substitute_without_constant
returns c s blocks is =
    let u0 : Carries s 0xffffffffffffffffffffffffffffffff00000000000000000000000000000000 (get_or c.args.state 7 []) = record { is = ap (λ q. get_or q 7 []) is ∙ plane_of_bit 7 0xffffffffffffffffffffffffffffffff00000000000000000000000000000000 s blocks refl } in
    let u1 : Carries s 0xffffffffffffffff0000000000000000ffffffffffffffff0000000000000000 (get_or c.args.state 6 []) = record { is = ap (λ q. get_or q 6 []) is ∙ plane_of_bit 6 0xffffffffffffffff0000000000000000ffffffffffffffff0000000000000000 s blocks refl } in
    let u2 : Carries s 0xffffffff00000000ffffffff00000000ffffffff00000000ffffffff00000000 (get_or c.args.state 5 []) = record { is = ap (λ q. get_or q 5 []) is ∙ plane_of_bit 5 0xffffffff00000000ffffffff00000000ffffffff00000000ffffffff00000000 s blocks refl } in
    let u3 : Carries s 0xffff0000ffff0000ffff0000ffff0000ffff0000ffff0000ffff0000ffff0000 (get_or c.args.state 4 []) = record { is = ap (λ q. get_or q 4 []) is ∙ plane_of_bit 4 0xffff0000ffff0000ffff0000ffff0000ffff0000ffff0000ffff0000ffff0000 s blocks refl } in
    let u4 : Carries s 0xff00ff00ff00ff00ff00ff00ff00ff00ff00ff00ff00ff00ff00ff00ff00ff00 (get_or c.args.state 3 []) = record { is = ap (λ q. get_or q 3 []) is ∙ plane_of_bit 3 0xff00ff00ff00ff00ff00ff00ff00ff00ff00ff00ff00ff00ff00ff00ff00ff00 s blocks refl } in
    let u5 : Carries s 0xf0f0f0f0f0f0f0f0f0f0f0f0f0f0f0f0f0f0f0f0f0f0f0f0f0f0f0f0f0f0f0f0 (get_or c.args.state 2 []) = record { is = ap (λ q. get_or q 2 []) is ∙ plane_of_bit 2 0xf0f0f0f0f0f0f0f0f0f0f0f0f0f0f0f0f0f0f0f0f0f0f0f0f0f0f0f0f0f0f0f0 s blocks refl } in
    let u6 : Carries s 0xcccccccccccccccccccccccccccccccccccccccccccccccccccccccccccccccc (get_or c.args.state 1 []) = record { is = ap (λ q. get_or q 1 []) is ∙ plane_of_bit 1 0xcccccccccccccccccccccccccccccccccccccccccccccccccccccccccccccccc s blocks refl } in
    let u7 : Carries s 0xaaaaaaaaaaaaaaaaaaaaaaaaaaaaaaaaaaaaaaaaaaaaaaaaaaaaaaaaaaaaaaaa (get_or c.args.state 0 []) = record { is = ap (λ q. get_or q 0 []) is ∙ plane_of_bit 0 0xaaaaaaaaaaaaaaaaaaaaaaaaaaaaaaaaaaaaaaaaaaaaaaaaaaaaaaaaaaaaaaaa s blocks refl } in
    let y14 : Carries s 0xf0ff0f00f0ff0f00f0ff0f00f0ff0f00f0ff0f00f0ff0f00f0ff0f00f0ff0f0 c.xor-y14.result = xor_gate c.xor-y14.ensures u3 u5 in
    let y13 : Carries s 0x33333333333333333333333333333333cccccccccccccccccccccccccccccccc c.xor-y13.result = xor_gate c.xor-y13.ensures u0 u6 in
    let y12 : Carries s 0x3c3cc3c33c3cc3c33c3cc3c33c3cc3c3c3c33c3cc3c33c3cc3c33c3cc3c33c3c c.xor-y12.result = xor_gate c.xor-y12.ensures y13 y14 in
    let t1 : Carries s 0xc33c3cc3c33c3cc3c33c3cc3c33c3cc33cc3c33c3cc3c33c3cc3c33c3cc3c33c c.xor-t1.result = xor_gate c.xor-t1.ensures u4 y12 in
    let y15 : Carries s 0x33cccc3333cccc3333cccc3333cccc33cc3333cccc3333cccc3333cccc3333cc c.xor-y15.result = xor_gate c.xor-y15.ensures t1 u5 in
    let t2 : Carries s 0x300cc003300cc003300cc003300cc003c003300cc003300cc003300cc003300c c.and-t2.result = and_gate c.and-t2.ensures y12 y15 in
    let y6 : Carries s 0x9966669999666699996666999966669966999966669999666699996666999966 c.xor-y6.result = xor_gate c.xor-y6.ensures y15 u7 in
    let y20 : Carries s 0x3cc3c33c3cc3c33cc33c3cc3c33c3cc3c33c3cc3c33c3cc33cc3c33c3cc3c33c c.xor-y20.result = xor_gate c.xor-y20.ensures t1 u1 in
    let y9 : Carries s 0xffff0000ffff0000ffff0000ffffffff0000ffff0000ffff0000ffff0000 c.xor-y9.result = xor_gate c.xor-y9.ensures u0 u3 in
    let y11 : Carries s 0x3cc33cc33cc33cc3c33cc33cc33cc33c3cc33cc33cc33cc3c33cc33cc33cc33c c.xor-y11.result = xor_gate c.xor-y11.ensures y20 y9 in
    let t12 : Carries s 0x3cc300003cc30000c33c0000c33c3cc300003cc30000c33c0000c33c0000 c.and-t12.result = and_gate c.and-t12.ensures y9 y11 in
    let y7 : Carries s 0x9669966996699669699669966996699696699669966996696996699669966996 c.xor-y7.result = xor_gate c.xor-y7.ensures u7 y11 in
    let y8 : Carries s 0xf0f0f0f0f0f0f0f0f0f0f0f0f0f0f0ff0f0f0f0f0f0f0f0f0f0f0f0f0f0f0f0 c.xor-y8.result = xor_gate c.xor-y8.ensures u0 u5 in
    let t0 : Carries s 0xffffffffffffffff0000000000000000ffffffffffffffff00000000 c.xor-t0.result = xor_gate c.xor-t0.ensures u1 u2 in
    let y10 : Carries s 0x33cccc33cc3333cccc3333cc33cccc33cc3333cc33cccc3333cccc33cc3333cc c.xor-y10.result = xor_gate c.xor-y10.ensures y15 t0 in
    let y17 : Carries s 0xf0ff0f0f0f00f0f0f0ff0f0f0f00f0ff0f00f0f0f0ff0f0f0f00f0f0f0ff0f0 c.xor-y17.result = xor_gate c.xor-y17.ensures y10 y11 in
    let t13 : Carries s 0xf0ff0f0000000000f0ff0f000000000000000000f0ff0f0000000000f0ff0f0 c.and-t13.result = and_gate c.and-t13.ensures y14 y17 in
    let t14 : Carries s 0xf0fcc3300003cc30f0f33cc0000c33c3cc3000033ccf0f0c33c0000cc33f0f0 c.xor-t14.result = xor_gate c.xor-t14.ensures t13 t12 in
    let y19 : Carries s 0x3cc3c33cc33c3cc3c33c3cc33cc3c33c3cc3c33cc33c3cc3c33c3cc33cc3c33c c.xor-y19.result = xor_gate c.xor-y19.ensures y10 y8 in
    let t15 : Carries s 0x30c0c030c03030c0c03030c030c0c03c03030c030c0c03030c0c030c03030c0 c.and-t15.result = and_gate c.and-t15.ensures y8 y10 in
    let t16 : Carries s 0x30c30c00c033fcf0c03c030030ccf3ffcf330c00c03c030f3fcc030030c30c0 c.xor-t16.result = xor_gate c.xor-t16.ensures t15 t12 in
    let y16 : Carries s 0x3cc33cc3c33cc33c3cc33cc3c33cc33c3cc33cc3c33cc33c3cc33cc3c33cc33c c.xor-y16.result = xor_gate c.xor-y16.ensures t0 y11 in
    let y21 : Carries s 0xff00ff0f00ff00f0ff00ff0f00ff00ff00ff00f0ff00ff0f00ff00f0ff00ff0 c.xor-y21.result = xor_gate c.xor-y21.ensures y13 y16 in
    let t7 : Carries s 0x300330030330033030033003033003300cc00cc0c00cc00c0cc00cc0c00cc00c c.and-t7.result = and_gate c.and-t7.ensures y13 y16 in
    let y18 : Carries s 0xc33cc33c3cc33cc3c33cc33c3cc33cc33cc33cc3c33cc33c3cc33cc3c33cc33c c.xor-y18.result = xor_gate c.xor-y18.ensures u0 y16 in
    let y1 : Carries s 0xaaaaaaaa5555555555555555aaaaaaaaaaaaaaaa5555555555555555aaaaaaaa c.xor-y1.result = xor_gate c.xor-y1.ensures t0 u7 in
    let y4 : Carries s 0x5555aaaaaaaa5555aaaa55555555aaaa5555aaaaaaaa5555aaaa55555555aaaa c.xor-y4.result = xor_gate c.xor-y4.ensures y1 u3 in
    let t5 : Carries s 0xaaaaaaaa0000aaaa00000000aaaa0000aaaaaaaa0000aaaa00000000aaaa c.and-t5.result = and_gate c.and-t5.ensures y4 u7 in
    let t6 : Carries s 0x300c6aa99aa6c0039aa6c003300c6aa9c0039aa66aa9300c6aa9300cc0039aa6 c.xor-t6.result = xor_gate c.xor-t6.ensures t5 t2 in
    let t18 : Carries s 0x33005a6996a5ffcc96a500333300a5963cf0aa6666aaf03c9955f03cc30faa66 c.xor-t18.result = xor_gate c.xor-t18.ensures t6 t16 in
    let t22 : Carries s 0xfc399555599c30f55993cf00fc366aa0033695aa596ccff5a69ccffffcc695a c.xor-t22.result = xor_gate c.xor-t22.ensures t18 y19 in
    let y2 : Carries s 0x55555555aaaaaaaaaaaaaaaa55555555aaaaaaaa5555555555555555aaaaaaaa c.xor-y2.result = xor_gate c.xor-y2.ensures y1 u0 in
    let t10 : Carries s 0x1441144182288228288228824114411482288228144114414114411428822882 c.and-t10.result = and_gate c.and-t10.ensures y2 y7 in
    let t11 : Carries s 0x244224428118811818811881422442248ee88ee8d44dd44d4dd44dd4e88ee88e c.xor-t11.result = xor_gate c.xor-t11.ensures t10 t7 in
    let t20 : Carries s 0x274e14828d1bbed71482d8b141288d1b721bbe28d84e147dbe288de4eb82d84e c.xor-t20.result = xor_gate c.xor-t20.ensures t11 t16 in
    let t24 : Carries s 0xe472d7beb1d88214d7be1b8d7debb1d84ed882eb1b72d74182ebb12728be1b72 c.xor-t24.result = xor_gate c.xor-t24.ensures t20 y18 in
    let y5 : Carries s 0x6666666699999999999999996666666666666666999999999999999966666666 c.xor-y5.result = xor_gate c.xor-y5.ensures y1 u6 in
    let t8 : Carries s 0x2222222211111111111111112222222222222222111111111111111122222222 c.and-t8.result = and_gate c.and-t8.ensures y5 y1 in
    let t9 : Carries s 0x122112211221122121122112211221122ee22ee2d11dd11d1dd11dd1e22ee22e c.xor-t9.result = xor_gate c.xor-t9.ensures t8 t7 in
    let t19 : Carries s 0x1d2ede1212212ee22e1d12de2112e22e12212ee2e2d121eddeed1dd12e1d12de c.xor-t19.result = xor_gate c.xor-t19.ensures t9 t14 in
    let t23 : Carries s 0x12ded1e2e22edeed21ed1d2ed11d1221e22edeeded212e1d2ee2edde21ed1d2e c.xor-t23.result = xor_gate c.xor-t23.ensures t19 y21 in
    let y3 : Carries s 0x6969696996969696969696966969696996969696696969696969696996969696 c.xor-y3.result = xor_gate c.xor-y3.ensures y5 y8 in
    let t3 : Carries s 0x960600990060690900606900960600906909006600909606009096006909006 c.and-t3.result = and_gate c.and-t3.ensures y3 y6 in
    let t4 : Carries s 0x396ca00aa00ac693a00ac693396ca00ac693a00aa00a396ca00a396cc693a00a c.xor-t4.result = xor_gate c.xor-t4.ensures t3 t2 in
    let t17 : Carries s 0x5af63369cc905af6336fa50fa509cc905af9cc9633605af9cc9fa50fa506336 c.xor-t17.result = xor_gate c.xor-t17.ensures t4 y20 in
    let t21 : Carries s 0xaa0af059cc9396c6c39c99cfa505ff5396c9cc950faf55f5ff5fa50366393c6 c.xor-t21.result = xor_gate c.xor-t21.ensures t17 t14 in
    let t26 : Carries s 0x28081008008186c2029090cd0101221202c9cc94020241d0ee0e85020611106 c.and-t26.result = and_gate c.and-t26.ensures t21 t23 in
    let t27 : Carries s 0xe6f256be31d09a78f7971281adfba3f96ef41e225b52f35c8c0b597708df0a74 c.xor-t27.result = xor_gate c.xor-t27.ensures t24 t26 in
    let t31 : Carries s 0xd431855d591db6375b035fcdfd3748b201ff593e5b6e8e2548924afdfad785c c.xor-t31.result = xor_gate c.xor-t31.ensures t22 t26 in
    let t25 : Carries s 0x5633650c950fa6339a0f56cf593395f395ff593f56c39a0059c36afc9affa9c c.xor-t25.result = xor_gate c.xor-t25.ensures t21 t22 in
    let t28 : Carries s 0x462161001509a6031801000a5932159285414025140310004081027088f0a14 c.and-t28.result = and_gate c.and-t28.ensures t25 t27 in
    let t29 : Carries s 0xba18f4554c9596f64192cf0aa5047f328677d58f4d6fdff5e61dcd8f743634e c.xor-t29.result = xor_gate c.xor-t29.ensures t28 t22 in
    let z14 : Carries s 0x10105450088082a200828a000504551282228085454555554415450a202220a c.and-z14.result = and_gate c.and-z14.ensures t29 y2 in
    let z5 : Carries s 0x221864114491069601028902810419200611448944094694800489061026106 c.and-z5.result = and_gate c.and-z5.ensures t29 y7 in
    let t30 : Carries s 0xf6ac065c53f65cf9f65306a3acf6a3f9acf65c06f653f95cac095cf90953065c c.xor-t30.result = xor_gate c.xor-t30.ensures t23 t24 in
    let t32 : Carries s 0x400005451905861741004a08cd2208920165402e412e840040904a90901005c c.and-t32.result = and_gate c.and-t32.ensures t31 t30 in
    let t33 : Carries s 0xe072d7eae048da75a3ae1f2df13991516eced6e9ff603f0186e2b58e21bf1b2e c.xor-t33.result = xor_gate c.xor-t33.ensures t32 t24 in
    let t35 : Carries s 0x6808154d198400d54390dac5cc232a8003ac8cba432cc5d0ae9ecf92960115a c.xor-t35.result = xor_gate c.xor-t35.ensures t27 t33 in
    let t36 : Carries s 0x4008114919800045438098c5cc23088001880cb0032c44102e9a02128201152 c.and-t36.result = and_gate c.and-t36.ensures t24 t35 in
    let t38 : Carries s 0xe2f2d7aaa0489a7ca3af1b0df13993716eec9ee95b60371d8ee2f95620ff1b26 c.xor-t38.result = xor_gate c.xor-t38.ensures t27 t36 in
    let t39 : Carries s 0x2a087000048186c20090800a010037128641c485040351d0e60d85020430306 c.and-t39.result = and_gate c.and-t39.ensures t29 t38 in
    let t40 : Carries s 0x7c3b150c918e20f19a9fd6c55833a2e113be9dba52c0cbd0bfceeffe9ecf99a c.xor-t40.result = xor_gate c.xor-t40.ensures t25 t39 in
    let t43 : Carries s 0xc623e159dd1bb607db0d19cffd37ddd395c948351faf142559d32271eaf9ad4 c.xor-t43.result = xor_gate c.xor-t43.ensures t29 t40 in
    let z3 : Carries s 0xc423c01811083203c801080c310411c384014834138c10014813003022c8214 c.and-z3.result = and_gate c.and-z3.ensures t43 y16 in
    let tc12 : Carries s 0xe63ba40955993495c903810eb00008e382100cbd57855695c817893632ee312 c.xor-tc12.result = xor_gate c.xor-tc12.ensures z3 z5 in
    let z12 : Carries s 0x223211111133203130111033133111084c848040c8c040448c00040c8c88c4 c.and-z12.result = and_gate c.and-z12.ensures t43 y13 in
    let z13 : Carries s 0x642204089188009198999084402222600226042810808990998889960646002 c.and-z13.result = and_gate c.and-z13.ensures t40 y5 in
    let z4 : Carries s 0x282a000411040051101554400822a2a002aa88a0504041501544455a8a8a88a c.and-z4.result = and_gate c.and-z4.ensures t40 y1 in
    let tc6 : Carries s 0xec09c01c000c3252d8145c4c3926b36386abc09443cc51515d57456aa842a9e c.xor-tc6.result = xor_gate c.xor-tc6.ensures z3 z4 in
    let t34 : Carries s 0xf2ac06080266049882430203202483708ce008041241111ca800585000520600 c.xor-t34.result = xor_gate c.xor-t34.ensures t23 t33 in
    let t37 : Carries s 0xf6ac871c93fe049cd67b0b8f7ce6b3f88cf888cf1273d55daae9f87128721752 c.xor-t37.result = xor_gate c.xor-t37.ensures t36 t34 in
    let t41 : Carries s 0xf16f364c5ae6e693cfd2f6e3296589d69dc36114b75fd9e0a115168ec19eeec8 c.xor-t41.result = xor_gate c.xor-t41.ensures t40 t37 in
    let z8 : Carries s 0x314c040048222280cc1232c0214488128c032104334cc82021040402c01222c8 c.and-z8.result = and_gate c.and-z8.ensures t41 y10 in
    let z17 : Carries s 0x10f060c0a0606030f0206030905090690c06010b050d0e0a0101080c090e0c0 c.and-z17.result = and_gate c.and-z17.ensures t41 y8 in
    let t44 : Carries s 0x16de50f673b6dee975d514a28ddf22a9e2365e26ed13ea5c2c0b4dff09cd0c7c c.xor-t44.result = xor_gate c.xor-t44.ensures t33 t37 in
    let z0 : Carries s 0x12cc40323384cc2131c4042201cc0021c0321204cc13224c0c0301cc0801004c c.and-z0.result = and_gate c.and-z0.ensures t44 y15 in
    let z9 : Carries s 0x141c40c23034c2c1341400820c1c0281c2021c24c103281c00030c3c01c10c3c c.and-z9.result = and_gate c.and-z9.ensures t44 y12 in
    let z10 : Carries s 0x6028010892960494961202866860216884908086006141492869686100121612 c.and-z10.result = and_gate c.and-z10.ensures t37 y3 in
    let z1 : Carries s 0x9024061891660498906202891866229804988846021191442289986020101142 c.and-z1.result = and_gate c.and-z1.ensures t37 y6 in
    let tc5 : Carries s 0x82e8462aa2e2c8b9a1a606ab19aa22b9c4aa9a42ce02b3082e8a99ac2811110e c.xor-tc5.result = xor_gate c.xor-tc5.ensures z1 z0 in
    let tc11 : Carries s 0x8c28da2b62e20b9c8c27436fda38498ffcc0264b8a3e761d3b5fedfa82953b90 c.xor-tc11.result = xor_gate c.xor-tc11.ensures tc6 tc5 in
    let z11 : Carries s 0x405082aaa0085055a2aa150551118000444482a8aa20150182a2150401150a2a c.and-z11.result = and_gate c.and-z11.ensures t33 y4 in
    let t42 : Carries s 0xebd358afb481831ac7b733dd5b69d6a246a9abb10bb6c2fed8836956d6fc7860 c.xor-t42.result = xor_gate c.xor-t42.ensures t29 t33 in
    let t45 : Carries s 0x1abc6ee3ee6765890865c53e720c5f74db6acaa5bce91b1e79967fd8176296a8 c.xor-t45.result = xor_gate c.xor-t45.ensures t42 t41 in
    let z7 : Carries s 0xa0c60e0e06005090805c03070000f04d0600a050c09101070900f08070290a0 c.and-z7.result = and_gate c.and-z7.ensures t45 y17 in
    let tc8 : Carries s 0x4ccfce12060c62c258485f4b3926432e80ab60c4835d50565457b5ead86ba3e c.xor-tc8.result = xor_gate c.xor-tc8.ensures z7 tc6 in
    let z16 : Carries s 0xa0c60e00e0760800805c030020c50700b0ac0a00c091010090670d0070290a0 c.and-z16.result = and_gate c.and-z16.ensures t45 y14 in
    let z6 : Carries s 0x28c3188334810002c334031c4328c22004812881088200c2c0004114c23c4020 c.and-z6.result = and_gate c.and-z6.ensures t42 y11 in
    let tc16 : Carries s 0x2c0fe46214e1c62ee6b086e8f0baa612ec8b9e8d40b7d5c7a5453a4a6fbafa1e c.xor-tc16.result = xor_gate c.xor-tc16.ensures z6 tc8 in
    let z15 : Carries s 0x58af0000831a000033dd0000d6a246a900000bb60000d8830000d6fc0000 c.and-z15.result = and_gate c.and-z15.ensures t42 y9 in
    let tc20 : Carries s 0x2c0fbccd14e14534e6b0b535f0ba70b0aa229e8d4b01d5c77dc63a4ab946fa1e c.xor-tc20.result = xor_gate c.xor-tc20.ensures z15 tc16 in
    let tc1 : Carries s 0xa0c384f0e07e39a0805f3ed020c86d24da3c0a007bf1010d18570d0d1fe90a0 c.xor-tc1.result = xor_gate c.xor-tc1.ensures z15 z16 in
    let tc2 : Carries s 0x6a2439479c91e70e9e17f16b6a6ca7bac933402607de5159f9ec18b1d1ec86b2 c.xor-tc2.result = xor_gate c.xor-tc2.ensures z10 tc1 in
    let tc21 : Carries s 0x2a74bbed3c99b75b3cbde46e3b7d27ba8d77c28eadfe44587b4e0db5d0f98c98 c.xor-tc21.result = xor_gate c.xor-tc21.ensures tc2 z11 in
    let tc3 : Carries s 0x7e387985aca525cfaa03f1e96670a53b0b315c02c6dd7945f9ef148dd02d8a8e c.xor-tc3.result = xor_gate c.xor-tc3.ensures z9 tc2 in
    let s0 : Carries s 0x52379de7b844e3e14cb3770196ca0329e7bac28f866aac825caa2ec7bf977090 c.xor-s0.result = xor_gate c.xor-s0.ensures tc3 tc16 in
    let s3 : Carries s 0xf210a3aece472e532624b286bc48ecb4f7f17a494ce30f58c2b0f97752b8b11e c.xor-s3.result = xor_gate c.xor-s3.ensures tc3 tc11 in
    let s1 : Carries s 0xde1f47ccdaa6e87dc094346e4cf24aa61b7ae4c40c54da9f67f5c33d3d024b00 c.xor-s1.result = xor_gate c.xor-s1.ensures s3 tc16 in
    let tc13 : Carries s 0xc4e180f871f6393118c6ae5460ea4f44d81a0e286b71889d81df849b19af0a2 c.xor-tc13.result = xor_gate c.xor-tc13.ensures z13 tc1 in
    let z2 : Carries s 0xa02282aaa0088a20a2aa0a28a02880002a8a82a8aa202a0082a2a08a20aa0a2a c.and-z2.result = and_gate c.and-z2.ensures t33 u7 in
    let tc4 : Carries s 0xb2eec298938c4601936e0e0aa1e48021eab890ac6633084c8ea1a14628ab0a66 c.xor-tc4.result = xor_gate c.xor-tc4.ensures z0 z2 in
    let tc7 : Carries s 0xb2ccf089829d7521a25e1f1a92f7b130e2f4142c26fbc80cca2da142242782a2 c.xor-tc7.result = xor_gate c.xor-tc7.ensures z12 tc4 in
    let tc9 : Carries s 0x8380f489cabf57a16e4c2ddab3b339226ef7352815b7002ceb29a540e435a06a c.xor-tc9.result = xor_gate c.xor-tc9.ensures z8 tc7 in
    let tc10 : Carries s 0x874c0868eadf918d4bc8a82e00215d1086fd83245d82d5298e6cde1e49b31a54 c.xor-tc10.result = xor_gate c.xor-tc10.ensures tc8 tc9 in
    let tc17 : Carries s 0x864d0d2dea5799a76bc0808e00711841aedfab2c09d6807cda2d8a4eebb1385e c.xor-tc17.result = xor_gate c.xor-tc17.ensures z14 tc10 in
    let s5 : Carries s 0xac39b6c0d6ce2efc577d64e03b0c3ffb23a869a2a428c424a16387fb3b48b4c6 c.xor-s5.result = xor_gate c.xor-s5.ensures tc21 tc17 in
    let tc26 : Carries s 0xaa42b1e0feb6dc938d7035bbf0cb68f104fd35a142d755bba7ebb00452f7c240 c.xor-tc26.result = xor_gate c.xor-tc26.ensures tc17 tc20 in
    let s2 : Carries s 0xab4db7ecf4b0da90827233b8f9ce61f7943d55b1f287855b07fba08492672280 c.xor-s2.result = xor_gate c.xor-s2.ensures tc26 z17 in
    let tc14 : Carries s 0xbc8d78d806d5d548cffe361a4ae480afd2999067b34b5d25d220d9d54b85e974 c.xor-tc14.result = xor_gate c.xor-tc14.ensures tc4 tc12 in
    let tc18 : Carries s 0xb0c360d781cab6dbde725cff0cea245b9f18308535fc45ac0a3d219cfa1f19d6 c.xor-tc18.result = xor_gate c.xor-tc18.ensures tc13 tc14 in
    let s6 : Carries s 0x378f68bf6b15275695baf4d10ccb794b19e5b3a1687e90858451ff82b3ac0382 c.xor-s6.result = xor_gate c.xor-s6.ensures tc10 tc18 in
    let s7 : Carries s 0xb0e152c690db85fbef424def3ff9154a9754b405753485ec4eb12198f6939112 c.xor-s7.result = xor_gate c.xor-s7.ensures z12 tc18 in
    let s4 : Carries s 0x4e9ddb76c892fb1be9da849cf6ac6c1b2568ea2effa8527d109020a2193d586a c.xor-s4.result = xor_gate c.xor-s4.ensures tc14 s3 in
    (λ i. (s7.is ∙ plane_without_constant 0 0xb0e152c690db85fbef424def3ff9154a9754b405753485ec4eb12198f6939112 s blocks refl) i ∷
    (s6.is ∙ plane_without_constant 1 0x378f68bf6b15275695baf4d10ccb794b19e5b3a1687e90858451ff82b3ac0382 s blocks refl) i ∷
    (s5.is ∙ plane_without_constant 2 0xac39b6c0d6ce2efc577d64e03b0c3ffb23a869a2a428c424a16387fb3b48b4c6 s blocks refl) i ∷
    (s4.is ∙ plane_without_constant 3 0x4e9ddb76c892fb1be9da849cf6ac6c1b2568ea2effa8527d109020a2193d586a s blocks refl) i ∷
    (s3.is ∙ plane_without_constant 4 0xf210a3aece472e532624b286bc48ecb4f7f17a494ce30f58c2b0f97752b8b11e s blocks refl) i ∷
    (s2.is ∙ plane_without_constant 5 0xab4db7ecf4b0da90827233b8f9ce61f7943d55b1f287855b07fba08492672280 s blocks refl) i ∷
    (s1.is ∙ plane_without_constant 6 0xde1f47ccdaa6e87dc094346e4cf24aa61b7ae4c40c54da9f67f5c33d3d024b00 s blocks refl) i ∷
    (s0.is ∙ plane_without_constant 7 0x52379de7b844e3e14cb3770196ca0329e7bac28f866aac825caa2ec7bf977090 s blocks refl) i ∷ [])
