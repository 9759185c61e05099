use Rattle.world_rows.proofs.Computed.{row_seats, row_seats_counted, row_no_seat, row_full_queue, row_listeners, row_arena, row_panic_code, row_negative_code, row_no_seat_counted, row_words_taken, row_given_back, row_no_seat_to_block, row_seat_to_block}
use Rattle.world_rows.proofs.rows.rows_of_limits.Goals as goal

pub returns-clause-seats : goal.returns-clause-seats
returns-clause-seats c = row_seats

pub returns-clause-seats_counted : goal.returns-clause-seats_counted
returns-clause-seats_counted c = row_seats_counted

pub returns-clause-no_seat : goal.returns-clause-no_seat
returns-clause-no_seat c = row_no_seat

pub returns-clause-full_queue : goal.returns-clause-full_queue
returns-clause-full_queue c = row_full_queue

pub returns-clause-listeners : goal.returns-clause-listeners
returns-clause-listeners c = row_listeners

pub returns-clause-arena : goal.returns-clause-arena
returns-clause-arena c = row_arena

pub returns-clause-panic_code : goal.returns-clause-panic_code
returns-clause-panic_code c = row_panic_code

pub returns-clause-negative_code : goal.returns-clause-negative_code
returns-clause-negative_code c = row_negative_code

pub returns-clause-no_seat_counted : goal.returns-clause-no_seat_counted
returns-clause-no_seat_counted c = row_no_seat_counted

pub returns-clause-words_taken : goal.returns-clause-words_taken
returns-clause-words_taken c = row_words_taken

pub returns-clause-given_back : goal.returns-clause-given_back
returns-clause-given_back c = row_given_back

pub returns-clause-no_seat_to_block : goal.returns-clause-no_seat_to_block
returns-clause-no_seat_to_block c = row_no_seat_to_block

pub returns-clause-seat_to_block : goal.returns-clause-seat_to_block
returns-clause-seat_to_block c = row_seat_to_block
