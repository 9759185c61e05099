-- Worked rows, computed by the definitions.
use Rattle.std.proofs.Common.{◌≡◌, [], ◌∷◌, refl}
use Rattle.std.specs.Prelude.{codes, Some, pos, negsuc}
use Rattle.std.specs.Fmt.{digits}
use Rattle.board_world.specs.Observations.{Faulted}
use Rattle.board_world.specs.Transcript.{closing_line}
use Rattle.world_rows.specs.Programs.{written, written_on, counted, unplugged_on, press, at_time, blinking, two_handlers, pauser, shortest_pause, seats_taken, many_events, busy_handler, at_once, endless_raisers, two_sleepers, waiter_and_listener, button_teller, press_teller, click_teller, sleeper_and_press, late_writer, sender, waiter_at_once, many_listeners, greedy, keeper, panicker, plotter, button_asker, up_at, unplug_at, button_b_teller, buttons_asker, value_teller, any_listener, late_listener, seats_given_back, handler_without_seat}

pub row_blinking : written_on 40 blinking 50 [] ≡ codes "0 display #..../...../...../...../.....\n20 display ...../...../...../...../.....\n40 display #..../...../...../...../.....\nend 50 script\n"
unfolding digits
row_blinking = refl

pub row_two_handlers : written 20 two_handlers ≡ codes "0 serial 32\n5 serial 31\nend 5 quiet\n"
unfolding digits
row_two_handlers = refl

pub row_shortest_pause : written 20 shortest_pause ≡ codes "1 serial 31\nend 1 quiet\n"
unfolding digits
row_shortest_pause = refl

pub row_seats : written 200 (seats_taken 23) ≡ codes "0 serial 37\nend 0 quiet\n"
unfolding digits
row_seats = refl

pub row_seats_counted : counted 200 (seats_taken 23) ≡ codes "stats spawned 24 blocked 0 words 161 seats 24\n"
unfolding digits
row_seats_counted = refl

pub row_no_seat : written 200 (seats_taken 24) ≡ codes "panic 0 101\n"
unfolding digits
row_no_seat = refl

pub row_full_queue : written 300 (many_events 33) ≡ codes "0 serial 31\n0 serial 32\n0 serial 33\n0 serial 34\n0 serial 35\n0 serial 36\n0 serial 37\n0 serial 38\n0 serial 39\n0 serial 3130\n0 serial 3131\n0 serial 3132\n0 serial 3133\n0 serial 3134\n0 serial 3135\n0 serial 3136\n0 serial 3137\n0 serial 3138\n0 serial 3139\n0 serial 3230\n0 serial 3231\n0 serial 3232\n0 serial 3233\n0 serial 3234\n0 serial 3235\n0 serial 3236\n0 serial 3237\n0 serial 3238\n0 serial 3239\n0 serial 3330\n0 serial 3331\n0 serial 3332\nend 0 quiet\n"
unfolding digits
row_full_queue = refl

pub row_queues : written 40 (busy_handler 16 3) ≡ codes "5 serial 31\n10 serial 32\n15 serial 33\nend 15 quiet\n"
unfolding digits
row_queues = refl

pub row_queues_counted : counted 40 (busy_handler 16 3) ≡ codes "stats spawned 1 blocked 1 words 18 seats 1\n"
unfolding digits
row_queues_counted = refl

pub row_drops : written 40 (busy_handler 32 3) ≡ codes "5 serial 31\nend 5 quiet\n"
unfolding digits
row_drops = refl

pub row_holds_ten : written 120 (busy_handler 16 12) ≡ codes "5 serial 31\n10 serial 32\n15 serial 33\n20 serial 34\n25 serial 35\n30 serial 36\n35 serial 37\n40 serial 38\n45 serial 39\n50 serial 3130\n55 serial 3131\nend 55 quiet\n"
unfolding digits
row_holds_ten = refl

pub row_reentrant : written 40 (busy_handler 8 3) ≡ codes "5 serial 31\n5 serial 32\n5 serial 33\nend 5 quiet\n"
unfolding digits
row_reentrant = refl

pub row_raises_now : written 30 (at_once 1) ≡ codes "0 serial 31\n0 serial 39\n5 serial 32\nend 5 quiet\n"
unfolding digits
row_raises_now = refl

pub row_raises_now_counted : counted 30 (at_once 1) ≡ codes "stats spawned 1 blocked 1 words 6 seats 2\n"
unfolding digits
row_raises_now_counted = refl

pub row_raises_twice : written 40 (at_once 2) ≡ codes "0 serial 31\n0 serial 39\n0 serial 39\n5 serial 32\n5 serial 31\n10 serial 32\nend 10 quiet\n"
unfolding digits
row_raises_twice = refl

pub row_raises_twice_counted : counted 40 (at_once 2) ≡ codes "stats spawned 1 blocked 1 words 12 seats 2\n"
unfolding digits
row_raises_twice_counted = refl

pub row_too_many_raisers : written 60 endless_raisers ≡ codes "panic 0 106\n"
unfolding digits
row_too_many_raisers = refl

pub row_sleepers : written 20 two_sleepers ≡ codes "5 serial 32\n5 serial 31\nend 5 quiet\n"
unfolding digits
row_sleepers = refl

pub row_waiter : written 20 waiter_and_listener ≡ codes "1 serial 32\n1 serial 31\nend 1 quiet\n"
unfolding digits
row_waiter = refl

pub row_click : written_on 30 button_teller 2000 (press 100 999) ≡ codes "100 serial 31\n1099 serial 32\n1099 serial 33\nend 1099 quiet\n"
unfolding digits
row_click = refl

pub row_long_click : written_on 30 button_teller 2000 (press 100 1000) ≡ codes "100 serial 31\n1100 serial 32\n1100 serial 34\nend 1100 quiet\n"
unfolding digits
row_long_click = refl

pub row_heard_click : written_on 30 click_teller 1000 (press 100 200) ≡ codes "300 serial 31\nend 300 quiet\n"
unfolding digits
row_heard_click = refl

pub row_unheard_click : written_on 30 click_teller 2000 (press 100 1000) ≡ codes "end 1100 quiet\n"
unfolding digits
row_unheard_click = refl

pub row_sleeper_first : written_on 30 sleeper_and_press 1000 (at_time 10 1 ∷ []) ≡ codes "10 serial 32\n10 serial 31\nend 10 quiet\n"
unfolding digits
row_sleeper_first = refl

pub row_at_the_end : written_on 20 (late_writer 50) 50 [] ≡ codes "50 serial 31\nend 50 quiet\n"
unfolding digits
row_at_the_end = refl

pub row_past_the_end : written_on 20 (late_writer 50) 49 [] ≡ codes "end 49 script\n"
unfolding digits
row_past_the_end = refl

pub row_entry_at_the_end : written_on 30 button_teller 50 (at_time 50 1 ∷ []) ≡ codes "50 serial 31\nend 50 quiet\n"
unfolding digits
row_entry_at_the_end = refl

pub row_budget : written 2 shortest_pause ≡ codes "budget 1\n"
unfolding digits
row_budget = refl

pub row_pins_and_radio : written 20 sender ≡ codes "0 pin 0 1\n0 pin 20 0\n0 radio -7\nend 0 quiet\n"
unfolding digits
row_pins_and_radio = refl

pub row_fault : closing_line 0 (Some (Faulted 1 12)) ≡ codes "fault 0 1 0000000c\n"
unfolding digits
row_fault = refl

pub row_waiter_at_once : written 20 waiter_at_once ≡ codes "1 serial 32\n1 serial 39\n1 serial 31\nend 1 quiet\n"
unfolding digits
row_waiter_at_once = refl

pub row_listeners : written 60 (many_listeners 33) ≡ codes "panic 0 103\n"
unfolding digits
row_listeners = refl

pub row_arena : written 20 greedy ≡ codes "0 serial 30\npanic 0 20\n"
unfolding digits
row_arena = refl

pub row_panic_code : written 20 (panicker (pos 300)) ≡ codes "panic 0 44\n"
unfolding digits
row_panic_code = refl

pub row_negative_code : written 20 (panicker (negsuc 0)) ≡ codes "panic 0 255\n"
unfolding digits
row_negative_code = refl

pub row_display : written 20 plotter ≡ codes "0 display #..../...../...../...../.....\nend 0 quiet\n"
unfolding digits
row_display = refl

pub row_down_twice : written_on 30 button_teller 100 (at_time 10 1 ∷ at_time 20 1 ∷ up_at 30 1 ∷ up_at 40 1 ∷ []) ≡ codes "10 serial 31\n30 serial 32\n30 serial 33\nend 40 quiet\n"
unfolding digits
row_down_twice = refl

pub row_asked : written_on 30 button_asker 100 (at_time 10 1 ∷ []) ≡ codes "15 serial 31\nend 15 quiet\n"
unfolding digits
row_asked = refl

pub row_pause_of_one : written 20 (pauser (pos 1)) ≡ codes "1 serial 31\nend 1 quiet\n"
unfolding digits
row_pause_of_one = refl

pub row_pause_of_less : written 20 (pauser (negsuc 6)) ≡ codes "1 serial 31\nend 1 quiet\n"
unfolding digits
row_pause_of_less = refl

pub row_entry_heard_at_the_end : written_on 20 press_teller 50 (at_time 50 1 ∷ []) ≡ codes "50 serial 31\nend 50 quiet\n"
unfolding digits
row_entry_heard_at_the_end = refl

pub row_budget_of_one : written 1 (late_writer 0) ≡ codes "budget 1\n"
unfolding digits
row_budget_of_one = refl

pub row_last_click : written_on 30 click_teller 2000 (press 100 999) ≡ codes "1099 serial 31\nend 1099 quiet\n"
unfolding digits
row_last_click = refl

pub row_no_seat_counted : counted 200 (seats_taken 24) ≡ codes "stats spawned 24 blocked 0 words 0 seats 24\n"
unfolding digits
row_no_seat_counted = refl

pub row_words_taken : written 20 keeper ≡ codes "0 serial 33\nend 0 quiet\n"
unfolding digits
row_words_taken = refl

pub row_drops_counted : counted 40 (busy_handler 32 3) ≡ codes "stats spawned 1 blocked 1 words 6 seats 1\n"
unfolding digits
row_drops_counted = refl

pub row_holds_ten_counted : counted 120 (busy_handler 16 12) ≡ codes "stats spawned 1 blocked 1 words 66 seats 1\n"
unfolding digits
row_holds_ten_counted = refl

pub row_reentrant_counted : counted 40 (busy_handler 8 3) ≡ codes "stats spawned 1 blocked 3 words 18 seats 3\n"
unfolding digits
row_reentrant_counted = refl

pub row_unplug : written_on 20 (late_writer 0) 1000 (unplug_at 3 2 ∷ []) ≡ codes "1 serial 31\nend 3 quiet\n"
unfolding digits
row_unplug = refl

pub row_unplug_placed : unplugged_on 20 (late_writer 0) 1000 (unplug_at 3 2 ∷ []) ≡ (2, 1) ∷ []
unfolding digits
row_unplug_placed = refl

pub row_no_event : written 20 value_teller ≡ codes "0 serial 30\nend 0 quiet\n"
unfolding digits
row_no_event = refl

pub row_any_event : written 20 any_listener ≡ codes "0 serial 37\n0 serial 38\nend 0 quiet\n"
unfolding digits
row_any_event = refl

pub row_too_late : written 20 late_listener ≡ codes "end 0 quiet\n"
unfolding digits
row_too_late = refl

pub row_button_b : written_on 30 button_b_teller 100 (at_time 10 2 ∷ up_at 20 2 ∷ []) ≡ codes "10 serial 31\n20 serial 32\n20 serial 33\nend 20 quiet\n"
unfolding digits
row_button_b = refl

pub row_all_asked : written_on 30 buttons_asker 100 (at_time 10 2 ∷ []) ≡ codes "15 serial 31\n15 serial 30\n15 serial 30\nend 15 quiet\n"
unfolding digits
row_all_asked = refl

pub row_given_back : counted 200 (seats_given_back 23) ≡ codes "stats spawned 47 blocked 0 words 8 seats 24\n"
unfolding digits
row_given_back = refl

pub row_no_seat_to_block : written 200 (handler_without_seat 23) ≡ codes "panic 0 101\n"
unfolding digits
row_no_seat_to_block = refl

pub row_seat_to_block : written 200 (handler_without_seat 22) ≡ codes "5 serial 37\nend 5 quiet\n"
unfolding digits
row_seat_to_block = refl
